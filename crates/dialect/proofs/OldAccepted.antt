-- What the questions make sure of in the older dialect: the netlist of an accepted text is well formed and has an old
-- form.
use Prim.Native.Nat.{ℕ, suc, ◌-◌, ◌≤◌}
use mathlib.Core.Path.{◌≡◌, refl, ap, ◌∙◌, subst}
use mathlib.Core.Bool.{Bool, true, false, cond, ◌&&◌}
use mathlib.Core.List.{List, [], ◌∷◌, map}
use mathlib.Core.Option.{Option, none, some}
use native.Mathlib.Omega.{arith}
use lib.Dec.{T, eqb, leb, leb→le, eqb→eq, lit≤}
use lib.ListN.{length, drop}
use borrow.Author.Tests.{le-leb, eqb-false}
use Rattle.netlist.specs.declared.Gate.{Gate}
use Rattle.netlist.specs.declared.Limits.{Limits}
use Rattle.netlist.specs.Lists.{every, sum}
use Rattle.netlist.specs.Text.{word_lines}
use Rattle.netlist.specs.Netlist.{Netlist, result}
use Rattle.netlist.specs.Number.{number}
use Rattle.netlist.specs.Outcome.{Outcome, done, ask, given, and_then}
use Rattle.netlist.specs.Header.{Header, numbers, make_header, within_limits}
use Rattle.netlist.specs.Read.{bytes_allowed, counts_agree, operands_given, is_given, result_good, gate_lines}
use Rattle.netlist.specs.Read.{netlist_of, read_gates, gates_good}
use Rattle.netlist.specs.Write.{one}
use Rattle.netlist.proofs.Tests.{both, pair, true-T}
use Rattle.netlist.proofs.Questions.{none-some, some_same, done-same, ask-done, given-done, cond-some, and_then-done}
use Rattle.netlist.proofs.Lines.{Fits}
use Rattle.netlist.proofs.HeaderFacts.{Widths, HeaderGood, header-good}
use Rattle.netlist.proofs.Accepted.{first-line, Accepted}
use Rattle.dialect.specs.OldHeader.{parties, input_values, output_values, party_header, old_header}
use Rattle.dialect.specs.OldRead.{old_line, old_opening, read_old}
use Rattle.dialect.specs.OldWrite.{is_old_gate, has_old_form}
use Rattle.dialect.specs.declared.Parties.{Parties}
use Rattle.dialect.proofs.GateNames.{old-gate}

-- ---- question 4

-- party one and the output have a bit
record SomeBits (P : Parties) : Type 0 where
  one : 1 ≤ P.one
  output : 1 ≤ P.output

parties-bits : (ns : Option (List ℕ)) (P : Parties) → parties ns ≡ some P → SomeBits P
parties-bits none P e = absurd (none-some P e)
parties-bits (some []) P e = absurd (none-some P e)
parties-bits (some (a ∷ [])) P e = absurd (none-some P e)
parties-bits (some (a ∷ (b ∷ []))) P e = absurd (none-some P e)
parties-bits (some (a ∷ (b ∷ (o ∷ [])))) P e =
    let Q : Parties = record { one = a; two = b; output = o } in
    let c = cond-some (leb 1 a && leb 1 o) Q P e in
    let k = both (leb 1 a) (leb 1 o) c.0 in
    let r : SomeBits Q = record { one = leb→le 1 a k.0; output = leb→le 1 o k.1 } in
    rw c.1 at r
parties-bits (some (a ∷ (b ∷ (o ∷ (x ∷ xs))))) P e = absurd (none-some P e)

inputs-widths : (P : Parties) → SomeBits P → Widths (input_values P)
inputs-widths P s = go (eqb P.two 0) refl
  where
    go : (b : Bool) → eqb P.two 0 ≡ b → Widths (input_values P)
    go true e = rw e (record {
      filled = lit≤ tt;
      positive = pair (leb 1 P.one) true (true-T _ (le-leb 1 P.one s.one)) tt;
    })
    go false e =
        let n : P.two ≡ 0 → ⊥ = eqb-false P.two 0 e in
        let two = true-T (leb 1 P.two) (le-leb 1 P.two (omega arith)) in
        rw e (record {
          filled = lit≤ tt;
          positive = pair (leb 1 P.one) (leb 1 P.two && true) (true-T _ (le-leb 1 P.one s.one))
              (pair (leb 1 P.two) true two tt);
        })

inputs-few : (P : Parties) → length (input_values P) ≤ 2
inputs-few P = go (eqb P.two 0)
  where
    go : (b : Bool) → length (cond b (P.one ∷ []) (P.one ∷ P.two ∷ [])) ≤ 2
    go true = lit≤ tt
    go false = lit≤ tt

-- line one holds two numbers of at most six digits
counts-fit : (a : List (List ℕ)) (g w : ℕ) → numbers a ≡ some (g ∷ w ∷ []) → Fits g × Fits w
unfolding number
counts-fit a g w e =
    let bit : List (List ℕ) = one ∷ one ∷ [] in
    let H : Header = record { count = g; wires = w; inputs = 1 ∷ []; outputs = 1 ∷ [] } in
    let h = header-good (a ∷ bit ∷ bit ∷ []) H (rw e refl) in
    (h.count, h.wires)

-- what question 4 makes sure of
pub record OldHeaderGood (H : Header) : Type 0 where
  pub good : HeaderGood H
  pub ins : length H.inputs ≤ 2
  pub outs : length H.outputs ≤ 1

pub old-header-good : (ls : List (List (List ℕ))) (H : Header) → old_header ls ≡ some H → OldHeaderGood H
old-header-good [] H e = absurd (none-some H e)
old-header-good (a ∷ []) H e = absurd (none-some H e)
old-header-good (a ∷ (b ∷ ls)) H e = go (parties (numbers b)) refl e
  where
    made : (ns : Option (List ℕ)) → numbers a ≡ ns → (P : Parties) → SomeBits P → make_header ns (some (input_values P))
        (some (output_values P)) ≡ some H
        → OldHeaderGood H
    made none q P s f = absurd (none-some H f)
    made (some []) q P s f = absurd (none-some H f)
    made (some (g ∷ [])) q P s f = absurd (none-some H f)
    made (some (g ∷ (w ∷ (x ∷ xs)))) q P s f = absurd (none-some H f)
    made (some (g ∷ (w ∷ []))) q P s f =
        let K : Header = record { count = g; wires = w; inputs = input_values P; outputs = output_values P } in
        let c = counts-fit a g w q in
        let o = pair (leb 1 P.output) true (true-T _ (le-leb 1 P.output s.output)) tt in
        let r : OldHeaderGood K =
        record {
          good = record {
            count = c.0;
            wires = c.1;
            inputs = inputs-widths P s;
            outputs
                = record { filled = lit≤ tt; positive = o };
          };
          ins = inputs-few P;
          outs = lit≤ tt;
        } in
        rw (some_same K H f) at r

    go : (p : Option Parties) → parties (numbers b) ≡ p → party_header (numbers a) p ≡ some H → OldHeaderGood H
    go none q f = absurd (none-some H f)
    go (some P) q f = made (numbers a) refl P (parties-bits (numbers b) P q) f

-- ---- questions 2 to 6

-- what they say of a text and its header, besides the text's own
record OldOpened (L : Limits) (t : List ℕ) (H : Header) : Type 0 where
  header : OldHeaderGood H
  wires : H.wires ≤ L.wires
  inputs : length H.inputs ≤ L.inputs
  outputs : length H.outputs ≤ L.outputs
  inputs_fit : sum H.inputs ≤ H.wires
  outputs_fit : sum H.outputs ≤ H.wires
  count : H.count ≡ H.wires - sum H.inputs
  gate_lines : length (drop 2 (word_lines t)) ≡ H.count

old-opened : (L : Limits) (t : List ℕ) (H : Header) → old_opening L t ≡ done H → OldOpened L t H
unfolding old_opening
old-opened L t H e =
    let ls = drop 2 (word_lines t) in
    let on : Header → Outcome Header = λ K. ask 5 (within_limits L K) (ask 6 (counts_agree K ls) (done K)) in
    let k₂ = ask-done 2 (leb (length t) L.text) (ask 3 (bytes_allowed t)
    (and_then (given 4 (old_header (word_lines t))) on)) H e in
    let k₃ = ask-done 3 (bytes_allowed t) (and_then (given 4 (old_header (word_lines t))) on) H k₂.1 in
    let k₄ = and_then-done (given 4 (old_header (word_lines t))) on H k₃.1 in
    let K = k₄.0 in
    let k₅ = ask-done 5 (within_limits L K) (ask 6 (counts_agree K ls) (done K)) H k₄.2 in
    let k₆ = ask-done 6 (counts_agree K ls) (done K) H k₅.1 in
    let w = leb K.wires L.wires in
    let i = leb (length K.inputs) L.inputs in
    let o = leb (length K.outputs) L.outputs in
    let n = leb (sum K.inputs) K.wires in
    let m = leb (sum K.outputs) K.wires in
    let l₅ = both (w && i && o && n) m k₅.0 in
    let l₄ = both (w && i && o) n l₅.0 in
    let l₃ = both (w && i) o l₄.0 in
    let l₂ = both w i l₃.0 in
    let c = both (eqb K.count (K.wires - sum K.inputs)) (eqb (length ls) K.count) k₆.0 in
    subst (OldOpened L t) (done-same K H k₆.1) (record {
      header = old-header-good (word_lines t) K (given-done 4 (old_header (word_lines t)) K k₄.1);
      wires = leb→le _ _ l₂.0;
      inputs = leb→le _ _ l₂.1;
      outputs = leb→le _ _ l₃.1;
      inputs_fit = leb→le _ _ l₄.1;
      outputs_fit = leb→le _ _ l₅.1;
      count = eqb→eq _ _ c.0;
      gate_lines = eqb→eq _ _ c.1;
    })

-- ---- questions 7 to 9

-- what they say of gates that follow the results rs
record OldGates (n W : ℕ) (rs : List ℕ) (lines : ℕ) (gs : List Gate) : Type 0 where
  tests : T (gates_good n W rs gs)
  count : length gs ≡ lines
  old : every is_old_gate gs ≡ true

old-gates : (n W : ℕ) (rs : List ℕ) (ls : List (List (List ℕ))) (gs : List Gate) → gate_lines n W rs (map old_line ls)
    ≡ done gs
    → OldGates n W rs (length ls) gs
old-gates n W rs [] gs e = let r : OldGates n W rs 0 [] = record { tests = tt; count = refl; old = refl }
    in rw (done-same [] gs e) at r
old-gates n W rs (l ∷ ls) gs e =
    let f = first-line n W rs (old_line l) (map old_line ls) gs e in
    let g = f.gate in
    let o = operands_given (is_given n rs) g in
    let a = result_good n W rs g in
    let ih = old-gates n W (result g ∷ rs) ls f.others f.rest in
    let r : OldGates n W rs (suc (length ls)) (g ∷ f.others) =
    record {
      tests = pair (o && a) (gates_good n W (result g ∷ rs) f.others) (pair o a f.operands f.result_ok) ih.tests;
      count = ap suc ih.count;
      old = rw (old-gate l g f.line, ih.old);
    } in
    rw f.all at r

-- ---- the whole

pub record OldAccepted (L : Limits) (N : Netlist) : Type 0 where
  pub accepted : Accepted L N
  pub form : has_old_form N ≡ true

-- the netlist of an accepted text
pub old-accepted : (L : Limits) (t : List ℕ) (N : Netlist) → read_old L t ≡ done N → OldAccepted L N
unfolding read_old
old-accepted L t N e =
    let ls = drop 2 (word_lines t) in
    let k = and_then-done (old_opening L t) (read_gates (map old_line ls)) N e in
    let H = k.0 in
    let m = and_then-done (gate_lines (sum H.inputs) H.wires [] (map old_line ls)) (λ gs. done (netlist_of H gs)) N k.2
    in
    let o = old-opened L t H k.1 in
    let h = o.header.good in
    let g = old-gates (sum H.inputs) H.wires [] ls m.0 m.1 in
    subst (OldAccepted L) (done-same (netlist_of H m.0) N m.2) (record {
      accepted = record {
        formed = record {
          some_input = h.inputs.filled;
          inputs_positive = h.inputs.positive;
          some_output = h.outputs.filled;
          outputs_positive = h.outputs.positive;
          inputs_fit = o.inputs_fit;
          outputs_fit = o.outputs_fit;
          gate_count = g.count ∙ o.gate_lines ∙ o.count;
          good = g.tests;
        };
        within = record { wires = o.wires; inputs = o.inputs; outputs = o.outputs };
        wires_fit = h.wires;
      };
      form = rw (g.old, le-leb _ _ o.header.ins, le-leb _ _ o.header.outs);
    })
