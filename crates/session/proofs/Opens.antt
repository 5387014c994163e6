-- An opening keeps nothing but its own masked gates.
use Prim.Native.Nat.{ℕ, ◌+◌, ◌≤◌}
use mathlib.Core.Path.{◌≡◌, refl, sym, ap, ◌∙◌}
use mathlib.Core.Bool.{◌&&◌}
use mathlib.Core.List.{List, [], map, append-nil}
use native.Mathlib.Omega.{arith}
use lib.Dec.{eqb, leb, leb→le, eqb→eq}
use lib.ListN.{length, take, drop, length-map}
use lib.Seq.{sets, sets-eq, take-append_seam, take_at}
use Rattle.netlist.specs.declared.Gate.{Gate}
use Rattle.netlist.specs.declared.Sizes.{Sizes}
use Rattle.netlist.specs.Lists.{every, sum}
use Rattle.netlist.specs.Netlist.{source_limits}
use Rattle.netlist.specs.Outcome.{Outcome, done, ask}
use Rattle.netlist.specs.Services.{list_good}
use Rattle.masking.specs.Mask.{is_input_code, input_twins}
use Rattle.netlist.proofs.Tests.{both}
use Rattle.netlist.proofs.Questions.{ask-done}
use Rattle.masking.proofs.PublicGates.{length-input_twins}
use Rattle.gates.specs.declared.records.SourceRecord.{SourceRecord}
use Rattle.gates.specs.declared.records.GateRecord.{GateRecord}
use Rattle.gates.specs.Records.{record_of, twin_in}
use Rattle.session.specs.Afresh.{open_gates}
use Rattle.session.specs.Asked.{widths_good, opening}
use Rattle.session.specs.Lists.{opened_lists}
use Rattle.session.specs.Rows.{Holds}

-- what is stored from the front on stands there
sets-front : {A : Type 0} (l vs : List A) → length vs ≤ length l → take (length vs) (sets l 0 vs) ≡ vs
sets-front l vs le = ap (take (length vs)) (sets-eq vs l 0 (omega arith)) ∙ take-append_seam vs (drop (0 + length vs) l)

module _ (z : Sizes) (widths codes : List ℕ) (source : List SourceRecord) (masked : List GateRecord) where
  abbrev n : ℕ
  n = length codes

  abbrev asks14 : Outcome (List Gate)
  asks14 = ask 14 (leb (length (open_gates codes)) (length masked)) (done [])

  abbrev asks11 : Outcome (List Gate)
  asks11 = ask 11 (list_good is_input_code (sum widths) codes) asks14

  abbrev asks5 : Outcome (List Gate)
  asks5 = ask 5 (leb (length widths) (source_limits z).inputs && leb (sum widths) (source_limits z).wires) asks11

  pub opened-holds : {gs : List Gate} → opening z widths codes (length masked) ≡ done gs → (gs ≡ [])
      × Holds z codes [] (opened_lists codes source masked)
  unfolding opening
  opened-holds {gs} e =
      let q4 = ask-done 4 (widths_good widths) asks5 gs e in
      let q5 = ask-done 5 (leb (length widths) (source_limits z).inputs && leb (sum widths) (source_limits z).wires)
      asks11 gs q4.1 in
      let q11 = ask-done 11 (list_good is_input_code (sum widths) codes) asks14 gs q5.1 in
      let q14 = ask-done 14 (leb (length (open_gates codes)) (length masked)) (done []) gs q11.1 in
      let d : ◌≡◌ {A = Outcome (List Gate)} (done []) (done gs) = q14.1 in
      let few = leb→le (sum widths) (source_limits z).wires (both (leb (length widths) (source_limits z).inputs)
      (leb (sum widths) (source_limits z).wires) q5.0).1 in
      let many = eqb→eq (length codes) (sum widths) (both (eqb (length codes) (sum widths)) (every is_input_code codes)
      q11.0).0 in
      let room = leb→le (length (open_gates codes)) (length masked) q14.0 in
      let lm = length-map (open_gates codes) record_of in
      let ts = input_twins (n + 5) 0 codes in
      let none : length ts ≡ n + 0 = omega (arith, length-input_twins (n + 5) 0 codes) in (
        cc,
        record {
          gates = refl;
          masked = ap length (sym (append-nil (open_gates codes)));
          sources = refl;
          maskeds =
              ap (λ (gs : List Gate). take (length gs) (sets masked 0 (map record_of (open_gates codes))))
              (append-nil (open_gates codes))
              ∙ ap (λ (k : ℕ). take k (sets masked 0 (map record_of (open_gates codes)))) (sym lm)
              ∙ sets-front masked (map record_of (open_gates codes)) (omega (arith, room, lm))
              ∙ ap (map record_of) (sym (append-nil (open_gates codes)));
          twins = take_at ts (map twin_in source) (n + 0) none ∙ sym (append-nil ts);
          froms = λ i l. absurd (omega (arith, l));
          rising = tt;
          within = omega (arith, many, few);
        },
      )
