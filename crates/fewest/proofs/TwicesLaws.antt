-- A gate that names one wire twice costs a change under every choice.
use Prim.Native.Nat.{ℕ, suc, ◌≤◌}
use mathlib.Core.Path.{◌≡◌, refl, sym, ap, ◌∙◌}
use mathlib.Core.List.{List, [], ◌∷◌}
use native.Mathlib.Omega.{arith}
use lib.Dec.{eqb}
use borrow.Author.Tests.{eqb-true, eqb-false, eq-eqb, ne_eqb}
use Rattle.netlist.specs.declared.Gate.{Gate}
use Rattle.netlist.specs.declared.Gate.TheVariants.{Xor, And, Inv, Eqw, Eq}
use Rattle.netlist.specs.Netlist.{Netlist, input_bits}
use Rattle.netlist.specs.Eval.{bit}
use Rattle.netlist.proofs.Tests.{on_bool}
use Rattle.fewest.specs.Choice.{Choice, chosen_gate, chosen_gates, chosen_source, chosen_inputs}
use Rattle.fewest.specs.Fewest.{twice, twices, changes_under}
use Rattle.fewest.specs.Codes.{code_at, gate_change, coded, code_changes, first_codes}
use Rattle.fewest.proofs.Chosen.{on-way}
use Rattle.fewest.proofs.OnlyCodes.{mask-changes}

eqb-sym : (a b : ℕ) → eqb a b ≡ eqb b a
eqb-sym a b = on_bool (eqb b a) (λ e. eq-eqb a b (sym (eqb-true b a e)) ∙ sym e)
    (λ e. ne_eqb a b (λ q. eqb-false b a e (sym q)) ∙ sym e)

-- whichever way an AND is taken, it costs the same change
pub way-change : (u : ℕ → ℕ) (d : ℕ) (g : Gate) → gate_change u (chosen_gate d g) ≡ gate_change u g
way-change u d (Xor a b c) = refl
way-change u d (And a b c) = on-way (λ g. gate_change u g ≡ bit (eqb (u a) (u b))) d a b c
    (ap bit (eqb-sym (u b) (u a))) refl
way-change u d (Inv a c) = refl
way-change u d (Eqw a c) = refl
way-change u d (Eq v c) = refl

-- one wire has one code
twice-bit : (u : ℕ → ℕ) (a b : ℕ) → bit (eqb a b) ≤ bit (eqb (u a) (u b))
twice-bit u a b =
    on_bool (eqb a b)
    (λ e. let q = eqb-true a b e in rw (e, eq-eqb (u a) (u b) (ap u q)) (omega arith))
    (λ e. rw e (omega arith))

pub twice-change : (u : ℕ → ℕ) (g : Gate) → bit (twice g) ≤ gate_change u g
twice-change u (Xor a b c) = twice-bit u a b
twice-change u (And a b c) = twice-bit u a b
twice-change u (Inv a c) = omega arith
twice-change u (Eqw a c) = omega arith
twice-change u (Eq v c) = omega arith

pub twices-changes : (u : List ℕ) (d : Choice) (p : ℕ) (gs : List Gate) → twices gs ≤ code_changes u
    (chosen_gates d p gs)
twices-changes u d p [] = omega arith
twices-changes u d p (g ∷ gs) =
    let h = twice-change (code_at u) g in
    let w = way-change (code_at u) (d p) g in
    let k = twices-changes (coded u (chosen_gate (d p) g)) d (suc p) gs in
    omega arith

pub twices-below : (N : Netlist) (codes wanted : List ℕ) (d : Choice) → twices N.gates ≤ changes_under N codes wanted d
twices-below N codes wanted d =
    let h = twices-changes (first_codes N (chosen_inputs codes d)) d (input_bits N) N.gates in
    let m = mask-changes (chosen_source N d) (chosen_inputs codes d) wanted in
    omega arith
