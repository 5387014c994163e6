-- The pass shows every wire of what came about by masking to be clean.
use mathlib.Core.Path.{◌≡◌, refl, ap, ◌∙◌}
use mathlib.Core.List.{List}
use Prim.Native.Nat.{ℕ, ◌+◌, ◌*◌, ◌≤◌, ◌<◌}
use native.Mathlib.Omega.{arith}
use lib.Dec.{ltb}
use lib.ListN.{length, get_or, replicate, length-replicate}
use borrow.Author.Tests.{eqb-true, ltb-true, ltb-false}
use Rattle.std.specs.Prelude.{Option, Some, None}
use Rattle.netlist.specs.Netlist.{Netlist}
use Rattle.masking.specs.Mask.{is_input_code}
use Rattle.netlist.proofs.Tests.{clash, on_bool, every-at, All}
use Rattle.masking.proofs.CodeLaws.{wanted-code}
use Rattle.netlist.proofs.Order.{every-wire, ordered-length}
use Rattle.masking.proofs.MaskInputs.{mask-inputs}
use Rattle.certify_records.proofs.Drawn.{mask', public', publics}
use Rattle.certify.specs.Pass.{LowestUnmarked, Masking, steps, joined, most_wires}
use Rattle.certify.specs.Step.{State, state, inputs_of, run_of, passed}
use Rattle.certify.proofs.Frames.{slot, Lit, view}
use Rattle.certify.proofs.Seats.{Model, framed-run, models}
use Rattle.certify.proofs.MaskedGates.{last}
use Rattle.certify.proofs.InputSlots.{arrived, arrived-bears, mask-leaf, AllArrived, all-arrive}
use Rattle.certify.proofs.Sound.{Arrives, Sound, masked-sound, joined-sound}

module _ {N : Netlist} {codes out_codes : List ℕ} (K : Sound N codes out_codes) (H : ℕ) (few : N.wires ≤ most_wires)
  where
    abbrev n : ℕ
    n = length codes

    abbrev zeros : State
    zeros = state (replicate (15 * N.wires) 0) (replicate N.wires 0) (replicate H 0)

    abbrev S : State
    S = inputs_of codes zeros

    abbrev F : State
    F = run_of S N.gates

    room : n + 2 ≤ N.wires
    room = let h = ordered-length K.ordered in omega arith

    arrive : AllArrived N.wires codes S
    arrive = all-arrive N.wires codes zeros (record {
      marks = length-replicate N.wires 0;
      records
          = length-replicate (15 * N.wires) 0;
    }) few room K.codes_good

    owed : All (Model (view F)) N.gates
    owed = models N.wires S K.ordered (omega arith) (omega arith) few arrive.fitting

    low-slot : (w : ℕ) → w < n + 2 → slot F w ≡ slot S w
    low-slot w h = (framed-run S K.ordered).slots w h

    low-lit : (w : ℕ) → w < n + 2 → Lit F.marks w
    low-lit w h = (framed-run S K.ordered).lit w (arrive.lit w h)

    stands : (w : ℕ) → w < n → slot F w ≡ Some (arrived w (get_or codes w 0))
    stands w h = low-slot w (omega arith) ∙ arrive.stands w h

    arrives : Arrives (view F) codes
    arrives =
        let r = room in
        let one = low-slot n (omega arith) ∙ arrive.first ∙ ap Some (mask-leaf 1 tt) in
        record {
          secret = λ w h p.
              arrived-bears (get_or codes w 0) w (wanted-code (get_or codes w 0)
              (every-at is_input_code codes K.codes_good w h) p) (omega arith) (stands w h);
          public = λ w h p d m.
              let e : get_or codes w 0 ≡ 0 = eqb-true (get_or codes w 0) 0 p in
              let q : slot F w ≡ Some (arrived w 0) = stands w h ∙ ap (λ (c : ℕ). Some (arrived w c)) e in
              last (view F) (8 * w) (8 * w + 1) (omega arith) (omega arith) 1 w n d 1 public' (mask' 1) publics q one m;
          first = one;
          second = low-slot (n + 1) (omega arith) ∙ arrive.second ∙ ap Some (mask-leaf 2 tt);
        }

    every-lit : (w : ℕ) → w < N.wires → Lit F.marks w
    every-lit w h =
        on_bool (ltb w (n + 2))
        (λ e. low-lit w (ltb-true w (n + 2) e))
        (λ e. every-wire (Lit F.marks) K.ordered (K.run (view F) arrives owed).clean w (ltb-false w (n + 2) e) h)

    -- so no wire is left
    none-left : (found : Option ℕ) → LowestUnmarked (passed N.wires H codes N.gates).marks N.wires found → found ≡ None
    unfolding passed
    none-left None L = refl
    none-left (Some w) L = let e = every-lit w L.unmarked.0 in clash (cc)

-- the steps, and joining, give sound netlists
sound : {N : Netlist} {codes out_codes : List ℕ} → Masking N codes out_codes → Sound N codes out_codes
sound (steps source codes wanted F c w) = masked-sound (mask-inputs F c w)
sound (joined A B codes middle out_codes K L) = joined-sound (sound K) (sound L)

pub masking-none : {N : Netlist} {codes out_codes : List ℕ} → Masking N codes out_codes → N.wires ≤ most_wires
    → (H : ℕ) (found : Option ℕ)
    → LowestUnmarked (passed N.wires H codes N.gates).marks N.wires found → found ≡ None
masking-none K few H = none-left (sound K) H few
