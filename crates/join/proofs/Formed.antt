-- The joined netlist is one that questions 4 to 9 admit.
use Prim.Native.Nat.{ℕ, ◌+◌, ◌-◌, ◌≤◌, ◌<◌}
use mathlib.Core.Path.{◌≡◌, sym, subst}
use mathlib.Core.Logic.{◌≢◌}
use mathlib.Core.Bool.{not}
use mathlib.Core.List.{List, [], ◌∷◌, ◌++◌, map}
use native.Mathlib.Omega.{arith}
use lib.Dec.{T, eqb}
use borrow.Author.Tests.{ne_eqb, eqb-false}
use lib.ListN.{length, length-append, length-map}
use Rattle.netlist.specs.declared.Gate.{Gate}
use Rattle.netlist.specs.Lists.{member}
use Rattle.netlist.specs.Netlist.{Netlist, input_bits, output_bits, result}
use Rattle.netlist.specs.Read.{is_given, gates_good, WellFormed}
use Rattle.netlist.proofs.Tests.{on_bool}
use Rattle.netlist.proofs.GoodGates.{GoodGate, good_gate, gate_good, given-none, given-more, given-new, given-cases}
use Rattle.netlist.proofs.GoodGates.{results, every-wire-given}
use Rattle.join.specs.Join.{joined_wire, renumbered, join}
use Rattle.join.proofs.SeamLaws.{Seam}
use Rattle.join.proofs.Wires.{seam-wire, pair-wire, further-wire, on-wire}
use Rattle.join.proofs.Renumbered.{result-renumbered, operands-renumbered}

-- good gates stay good under a larger W, and gates that are good after them follow them
gates-append : (n W W' : ℕ) (rs : List ℕ) (gs hs : List Gate) → W ≤ W' → T (gates_good n W rs gs)
    → T (gates_good n W' (results rs gs) hs)
    → T (gates_good n W' rs (gs ++ hs))
gates-append n W W' rs [] hs l t s = s
gates-append n W W' rs (g ∷ gs) hs l t s =
    let G : GoodGate n W rs g gs = good_gate t in
    let h : result g < W = G.high in
    let H : GoodGate n W' rs g (gs ++ hs)
    = record {
      operands = G.operands;
      low = G.low;
      high = omega arith;
      fresh = G.fresh;
      rest
          = gates-append n W W' (result g ∷ rs) gs hs l G.rest s;
    } in
    gate_good H

-- results are below W
results-below : (n W : ℕ) (rs : List ℕ) (gs : List Gate) → T (gates_good n W rs gs) → (w : ℕ) → W ≤ w
    → T (not (member w rs))
    → T (not (member w (results rs gs)))
results-below n W rs [] t w l h = h
results-below n W rs (g ∷ gs) t w l h =
    let G : GoodGate n W rs g gs = good_gate t in
    let b : result g < W = G.high in
    results-below n W (result g ∷ rs) gs G.rest w l (rw (ne_eqb w (result g) (λ e. omega arith)) h)

module _ {A B : Netlist} (S : Seam A B) where
  abbrev f : ℕ → ℕ
  f = joined_wire A B

  abbrev J : Netlist
  J = join A B

  -- an input of the second is a wire of the first
  pub input-below : (w : ℕ) → w < input_bits B → f w < A.wires
  input-below w h =
      let i : input_bits A ≤ A.wires = S.first.inputs_fit in
      let o : output_bits A ≤ A.wires = S.first.outputs_fit in
      let p : 2 ≤ input_bits A = S.pair in
      let m : output_bits A + 2 ≡ input_bits B = S.meets in
      on-wire (input_bits B) w
      (λ k. rw (seam-wire A B w k) (omega arith))
      (λ l k. rw (pair-wire A B w l k) (omega arith))
      (λ l. absurd (omega arith))

  -- with the results rs of the second's gates, all results are rs'
  record Moved (rs rs' : List ℕ) : Type 0 where
    under : (w : ℕ) → T (is_given (input_bits B) rs w) → T (is_given (input_bits A) rs' (f w))
    over : (w : ℕ) → input_bits B ≤ w → T (not (member w rs)) → T (not (member (f w) rs'))

  moved-start : Moved [] (results [] A.gates)
  moved-start = record {
    under = λ w t. every-wire-given S.first (f w) (input-below w (given-none (input_bits B) w t));
    over = λ w l t. results-below (input_bits A) A.wires [] A.gates S.first.good (f w)
        (rw (further-wire A B w l) (omega arith)) tt;
  }

  moved-next : {rs rs' : List ℕ} (r : ℕ) → input_bits B ≤ r → Moved rs rs' → Moved (r ∷ rs) (f r ∷ rs')
  moved-next {rs} {rs'} r l M = record {
    under = λ w t. given-cases (input_bits B) rs r w t
        (λ e. subst (λ (v : ℕ). T (is_given (input_bits A) (f r ∷ rs') (f v))) (sym e)
        (given-new (input_bits A) rs' (f r)))
        (λ ne g. given-more (input_bits A) rs' (f r) (f w) (M.under w g));
    over = λ w k t. on_bool (eqb w r)
        (λ e. absurd (rw e at t))
        (λ e. let ne : w ≡ r → ⊥ = eqb-false w r e in
        let d : f w ≢ f r = rw (further-wire A B w k, further-wire A B r l) (omega arith) in
        rw (ne_eqb (f w) (f r) d) (M.over w k (rw e at t)));
  }

  second-good : {rs rs' : List ℕ} (gs : List Gate) → T (gates_good (input_bits B) B.wires rs gs) → Moved rs rs'
      → T (gates_good (input_bits A) J.wires rs' (map (renumbered f) gs))
  second-good [] t M = tt
  second-good {rs} {rs'} (g ∷ gs) t M =
      let G : GoodGate (input_bits B) B.wires rs g gs = good_gate t in
      let i : input_bits A ≤ A.wires = S.first.inputs_fit in
      let l : input_bits B ≤ result g = G.low in
      let h : result g < B.wires = G.high in
      let r : result (renumbered f g) ≡ f (result g) = result-renumbered f g in
      let e : f (result g) ≡ A.wires + result g - input_bits B = further-wire A B (result g) l in
      let fresh : T (not (member (result (renumbered f g)) rs')) = rw r (M.over (result g) l G.fresh) in
      let rest : T (gates_good (input_bits A) J.wires (result (renumbered f g) ∷ rs') (map (renumbered f) gs))
      = rw r (second-good {rs = result g ∷ rs} {rs' = f (result g) ∷ rs'} gs G.rest (moved-next (result g) l M)) in
      let H : GoodGate (input_bits A) J.wires rs' (renumbered f g) (map (renumbered f) gs) = record {
        operands = operands-renumbered (is_given (input_bits B) rs) (is_given (input_bits A) rs') f g M.under
            G.operands;
        low = omega arith;
        high = omega arith;
        fresh = fresh;
        rest = rest;
      } in
      gate_good H

  pub joined-formed : WellFormed (join A B)
  joined-formed =
      let F = S.first in
      let G = S.second in
      let i : input_bits A ≤ A.wires = F.inputs_fit in
      let k : input_bits B ≤ B.wires = G.inputs_fit in
      let c : length A.gates ≡ A.wires - input_bits A = F.gate_count in
      let d : length B.gates ≡ B.wires - input_bits B = G.gate_count in
      let g : output_bits B ≤ length B.gates = S.gates in
      record {
        some_input = F.some_input;
        inputs_positive = F.inputs_positive;
        some_output = G.some_output;
        outputs_positive = G.outputs_positive;
        inputs_fit = omega arith;
        outputs_fit = omega arith;
        gate_count = simp (length-append, length-map) (omega arith);
        good = gates-append (input_bits A) A.wires J.wires [] A.gates (map (renumbered f) B.gates) (omega arith) F.good
            (second-good B.gates G.good moved-start);
      }
