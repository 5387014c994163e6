-- From two blocks that were read to Join's promise.
use Rattle.std.specs.Prelude.{Err, Ok, Result}
use Prim.Native.Nat.{ℕ, ◌+◌, ◌-◌, ◌≤◌, ◌<◌}
use mathlib.Core.Path.{◌≡◌, refl, sym, ap, ap₂, ◌∙◌, subst}
use mathlib.Core.Bool.{Bool, true, false, not, ◌&&◌}
use mathlib.Core.List.{List, [], ◌∷◌, ◌++◌, map}
use native.Mathlib.Omega.{arith}
use lib.Dec.{eqb, leb, eqb→eq}
use lib.ListN.{length, take}
use borrow.Author.Tests.{le-leb, lt-leb}
use Rattle.std.specs.List.{list_any}
use Rattle.netlist.specs.declared.Gate.{Gate}
use Rattle.netlist.specs.declared.Limits.{Limits}
use Rattle.netlist.specs.declared.Sizes.{Sizes}
use Rattle.netlist.specs.declared.Refusal.{Refusal}
use Rattle.netlist.specs.declared.Refusal.TheVariants as Q
use Rattle.netlist.specs.Refusal.{number_of}
use Rattle.netlist.specs.Lists.{every, same_bytes, sum}
use Rattle.netlist.specs.Netlist.{Netlist, input_bits, masked_limits}
use Rattle.netlist.specs.Outcome.{Outcome, refused, done, ask, and_then}
use Rattle.netlist.specs.Write.{write_netlist, gate_text}
use Rattle.masking.specs.Mask.{is_input_code}
use Rattle.netlist.specs.Services.{tables_long, list_good, outcome_of, Answers, Delivers}
use Rattle.masking.specs.Calls.{ends_in_masks}
use Rattle.netlist.specs.Table.{Tables, half, gates_of}
use Rattle.netlist.proofs.Tests.{on_bool, both, true-T, is_true, same-equal}
use Rattle.netlist.proofs.Questions.{ask-done}
use Rattle.netlist.proofs.Puts.{length-gates}
use Rattle.netlist.proofs.Answering.{answers-as, answers-refused, call-refused, call-goes-on}
use Rattle.write_netlist.specs.Header.{header_text}
use Rattle.write_netlist.proofs.Headers.{header-gates}
use Rattle.reader.specs.declared.header.Header.{Header}
use Rattle.reader.specs.Whole.{ReadAt}
use Rattle.write_netlist.specs.Form.{form_text}
use Rattle.join.specs.Join.{joined_wire, renumbered, join}
use Rattle.join.specs.Call.{block_outcome, read_block, is_secret, seam_good, join_outcome, join_call}
use Rattle.join.specs.Delivered.{Delivered}
use Rattle.join.proofs.Calls.{has-pair, read-block}
use Rattle.join.proofs.Delivering.{call-delivers}
use Rattle.join.specs.declared.seam.SeamNumbers.{SeamNumbers}
use Rattle.join.specs.Seams.{joined_wires, Meeting}
use Rattle.join.specs.Appended.{goes_to, Appended}
use Rattle.questions.specs.Asked.{codes_asked}
use Rattle.join.specs.Blocks.{BlockAt, BlockIs, Numbers, First, Second, seam_holds}
use Rattle.join.specs.Promise.{lengths, call}

-- ---- a text with its input codes

module _ (L : Limits) (ls text codes ins outs : List ℕ) (t : Tables) where
  module _ {h : Header} (k : (tables_long L ls ≡ true) × ReadAt L text ins outs t h) where
    abbrev N : Netlist
    N = k.1.is

    -- questions 10 and 11 of the netlist, from the widths
    abbrev asks : Bool → Bool → Outcome (Unit {0})
    asks x y = ask 10 x (ask 11 y (done tt))

    asked-same : and_then (codes_asked (take h.input_values ins) codes) (λ u. done N) ≡ block_outcome codes N
    asked-same = go (ends_in_masks (take h.input_values ins))
        (list_good is_input_code (sum (take h.input_values ins) - 2) codes)
        ∙ ap (λ (ws : List ℕ). ask 10 (ends_in_masks ws) (ask 11 (list_good is_input_code (sum ws - 2) codes) (done N)))
        k.1.inputs
      where
        go : (x y : Bool) → and_then (asks x y) (λ u. done N) ≡ ask 10 x (ask 11 y (done N))
        go true true = refl
        go true false = refl
        go false y = refl

    pub block-is : {M : Limits} → L ≡ M → done tt ≡ codes_asked (take h.input_values ins) codes
        → BlockIs M ls text codes ins outs t (Ok h)
    block-is same e =
        let d : block_outcome codes N ≡ done N = sym asked-same
        ∙ ap (λ (o : Outcome (Unit {0})). and_then o (λ u. done N)) (sym e) in
        let k₁₀ = ask-done 10 (ends_in_masks N.inputs) (ask 11 (list_good is_input_code (input_bits N - 2) codes)
        (done N)) N d in
        let k₁₁ = ask-done 11 (list_good is_input_code (input_bits N - 2) codes) (done N) N k₁₀.1 in
        subst (λ (l : Limits). BlockIs l ls text codes ins outs t (Ok h)) same
        (k.0, record { at = k.1; masks = k₁₀.0; list = k₁₁.0 })

-- the numbers of a block that was read
module _ {L : Limits} {text codes ins outs : List ℕ} {t : Tables} {h : Header} (a : BlockAt L text codes ins outs t h)
  where
    pub block_read : read_block L text codes ≡ done a.at.is
    block_read = read-block {codes = codes} (record { read = a.at.read; masks = a.masks; list = a.list })

    pub block-numbers : Numbers h t
    block-numbers =
        let i : input_bits a.at.is ≡ h.input_bits = a.at.holds.ins in
        record {
          wired = a.at.wired;
          pair = omega (arith, has-pair a.at.is a.masks);
          outs = a.at.out_bits;
          gates
              = a.at.gates;
        }

    pub block-codes : length codes ≡ h.input_bits - 2
    block-codes =
        let n = input_bits a.at.is - 2 in
        let i : input_bits a.at.is ≡ h.input_bits = a.at.holds.ins in
        let e : length codes ≡ n = eqb→eq (length codes) n (both (eqb (length codes) n) (every is_input_code codes)
        a.list).0 in
        omega arith

    pub block-first : First h (take h.input_values ins) t a.at.is
    block-first = record { holds = a.at.holds; inputs = a.at.inputs }

    pub block-second : Second h (take h.output_values outs) t a.at.is
    block-second = record { holds = a.at.holds; outputs = a.at.outputs }

-- ---- question 25

pub no_zero : (codes : List ℕ) → not (list_any (λ e. eqb e 0) codes) ≡ every is_secret codes
no_zero [] = refl
no_zero (e ∷ codes) = on_bool (eqb e 0) (λ t. rw t) (λ t. rw t (no_zero codes))

module _ (a : Header) (out_codes : List ℕ) (b : Header) (codes : List ℕ) where
  -- the numbers then meet, where the joined W is below 2^32
  pub seam-meets : {t v : Tables} → Numbers a t → Numbers b v → length codes ≡ b.input_bits - 2
      → seam_holds a out_codes b codes ≡ true
      → joined_wires a.wires b.wires b.input_bits < half → Meeting a.wires a.output_bits a.input_bits b.wires
      b.input_bits
  seam-meets A B l e f =
      let x = eqb (length out_codes) a.output_bits in
      let y = same_bytes out_codes codes in
      let z = every is_secret codes in
      let w = leb b.output_bits b.gates in
      let p = (both (x && y && z) w (true-T (x && y && z && w) e)).0 in
      let q = both x y (both (x && y) z p).0 in
      let n : length out_codes ≡ a.output_bits = eqb→eq (length out_codes) a.output_bits q.0 in
      let m : length out_codes ≡ length codes = ap length (same-equal out_codes codes (is_true y q.1)) in
      let i : 2 ≤ b.input_bits = B.pair in
      record {
        outs = A.outs;
        pair = A.pair;
        ins = a.inputs_are_wires;
        meets = omega arith;
        inner
            = b.inputs_are_wires;
        fits = f;
      }

-- ---- questions 25, 5 and 14

module _ {a b : Header} {ins outs : List ℕ} {t v : Tables} {A B : Netlist} (F : First a ins t A) (S : Second b outs v B)
  where
    gates-second : length B.gates ≡ b.gates
    gates-second = ap length S.holds.gates ∙ length-gates v b.gates

    seam-same : (out_codes codes : List ℕ) → seam_good A out_codes B codes ≡ seam_holds a out_codes b codes
    seam-same out_codes codes = rw (F.holds.outs, S.holds.outs, gates-second) refl

    wires-same : (join A B).wires ≡ joined_wires a.wires b.wires b.input_bits
    wires-same = rw (F.holds.wires, S.holds.wires, S.holds.ins) refl

    module _ (L : Limits) (out_codes codes out : List ℕ) where
      pub join-25 : seam_holds a out_codes b codes ≡ false
          → Answers (join_outcome L out_codes codes (length out) A B) out
          out (Err Q.Seam)
      join-25 e = answers-refused out (rw (seam-same out_codes codes ∙ e))

      pub join-5 : seam_holds a out_codes b codes ≡ true → L.wires < joined_wires a.wires b.wires b.input_bits
          → Answers (join_outcome L out_codes codes (length out) A B) out out (Err Q.Limits)
      join-5 e h = answers-refused out
          (rw (seam-same out_codes codes ∙ e, lt-leb (join A B).wires L.wires (rw wires-same h)))

      pub join-14 : {x : List ℕ} {r : Result ℕ Refusal} → seam_holds a out_codes b codes ≡ true
          → joined_wires a.wires b.wires b.input_bits ≤ L.wires
          → Delivers (write_netlist (join A B)) out x r
          → Answers (join_outcome L out_codes codes (length out) A B) out x
          r
      join-14 e h d = answers-as
          (sym (rw (seam-same out_codes codes ∙ e, le-leb (join A B).wires L.wires (rw wires-same h)))) d.answers

    -- the written form of the tables with the second's gates after the first's
    pub joined-form : {u : Tables} (s : SeamNumbers) → (s.wires ≡ a.wires) × (s.outs ≡ a.output_bits)
        × (s.ins ≡ a.input_bits) × (s.inner ≡ b.input_bits)
        → Appended s t a.gates v b.gates u
        → form_text (a.gates + b.gates) (joined_wires a.wires b.wires b.input_bits) ins outs u
        ≡ write_netlist (join A B)
    joined-form {u} s (e, f, g, h) P =
        let J = join A B in
        let moved : joined_wire A B ≡ goes_to s = rw (F.holds.wires, F.holds.outs, F.holds.ins, S.holds.ins, e, f, g, h)
        refl in
        let gates : J.gates ≡ gates_of u (a.gates + b.gates)
        = ap₂ (λ (gs hs : List Gate). gs ++ hs) F.holds.gates
        (ap₂ (λ (k : ℕ → ℕ) (hs : List Gate). map (renumbered k) hs)
        moved S.holds.gates)
        ∙ sym P.gates in
        let n : length J.gates ≡ a.gates + b.gates = ap length gates ∙ length-gates u (a.gates + b.gates) in
        let p : header_text (a.gates + b.gates) (joined_wires a.wires b.wires b.input_bits) ins outs
        ≡ header_text (length J.gates) J.wires J.inputs J.outputs
        = rw (n, wires-same) (ap₂ (header_text (a.gates + b.gates) (joined_wires a.wires b.wires b.input_bits)) F.inputs
        S.outputs) in
        ap₂ ◌++◌ p (ap gate_text (sym gates)) ∙ header-gates J

-- ---- the second text, and the whole call

module _ (L : Limits) (ls text codes out_codes out : List ℕ) (A : Netlist) where
  abbrev then : Netlist → Outcome (List ℕ)
  then = join_outcome L out_codes codes (length out) A

  pub second-read : {B : Netlist} {x : List ℕ} {r : Result ℕ Refusal} → read_block L text codes ≡ done B
      → Answers (then B) out x r
      → Answers (and_then (read_block L text codes) then) out x r
  second-read e = answers-as (sym (rw e))

module _ (s : Sizes) (first second codes out_codes inner out o r g w b : List ℕ) where
  -- what follows the first text
  abbrev rest : Netlist → Outcome (List ℕ)
  rest A = and_then (read_block (masked_limits s) second inner)
      (join_outcome (masked_limits s) out_codes inner (length out) A)

  pub call-not : (q : Refusal) → ask 1 (tables_long (masked_limits s) (lengths o r g w b))
      (read_block (masked_limits s) first codes) ≡ refused (number_of q)
      → Answers (call s first second codes out_codes inner out o r g w b) out out (Err q)
  unfolding join_call
  call-not q p = answers-refused out (call-refused (tables_long (masked_limits s) (lengths o r g w b))
      (read_block (masked_limits s) first codes) rest p)

  pub call-read : {A : Netlist} {x : List ℕ} {a : Result ℕ Refusal} → tables_long (masked_limits s) (lengths o r g w b)
      ≡ true
      → read_block (masked_limits s) first codes ≡ done A → Answers (rest A) out x a
      → Answers (call s first second codes out_codes inner out o r g w b) out x a
  unfolding join_call
  call-read e p = answers-as (sym (call-goes-on (tables_long (masked_limits s) (lengths o r g w b))
      (read_block (masked_limits s) first codes) rest e p))

  -- what an answer with a text delivers
  pub call-delivered : {x : List ℕ} {a : Result ℕ Refusal} →
      Answers (call s first second codes out_codes inner out o r g w b) out x a
      → (n : ℕ) → a ≡ Ok n → Delivered s (lengths o r g w b) first codes out_codes second inner (length out) (take n x)
  call-delivered {x} {a} k n p =
      call-delivers s (lengths o r g w b) first codes out_codes second inner (length out) (take n x)
      (sym k.outcome ∙ ap (outcome_of x) p)

-- ---- for the functions' proofs

pub delivers-as : {bs cs e x : List ℕ} {r : Result ℕ Refusal} → bs ≡ cs → Delivers bs e x r → Delivers cs e x r
delivers-as p d = rw p at d
