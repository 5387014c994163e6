-- What trying the next choice keeps: the codes of the wires alone decide the changes.
use Rattle.std.specs.Prelude.{ℕ, suc, ◌+◌, ◌-◌, cond, List, [], ◌∷◌, ◌++◌, map, eqb, ltb, get_or, set, take, drop}
use Rattle.std.specs.Prelude.{replicate}
use Rattle.netlist.specs.declared.Gate.{Gate}
use Rattle.netlist.specs.declared.Gate.TheVariants.{Xor, And, Inv, Eqw, Eq}
use Rattle.netlist.specs.Netlist.{Netlist, input_bits, result}
use Rattle.masking.specs.Mask.{third, after, is_public}
use Rattle.netlist.specs.Eval.{bit}
use Rattle.fewest.specs.Choice.{Choice, chosen_gates, chosen_inputs}
use Rattle.fewest.specs.Fewest.{twices}
use Rattle.masking.specs.Changes.{output_change}

-- the code of each wire
abbrev pub code_at : List ℕ → ℕ → ℕ
code_at u w = get_or u w 0

-- the second operand's code after the mask change, if there is one
abbrev pub second_code : ℕ → ℕ → ℕ
second_code e f = cond (eqb e f) (third f (after f)) f

-- the code of a gate's result, and whether it costs a change, from the wires' codes
abbrev pub gate_code : (ℕ → ℕ) → Gate → ℕ
gate_code u (Xor a b c) = third (u a) (second_code (u a) (u b))
gate_code u (And a b c) = u a
gate_code u (Inv a c) = u a
gate_code u (Eqw a c) = u a
gate_code u (Eq v c) = 1

abbrev pub gate_change : (ℕ → ℕ) → Gate → ℕ
gate_change u (Xor a b c) = bit (eqb (u a) (u b))
gate_change u (And a b c) = bit (eqb (u a) (u b))
gate_change u (Inv a c) = 0
gate_change u (Eqw a c) = 0
gate_change u (Eq v c) = 0

-- the codes after a gate, and after gates
abbrev pub coded : List ℕ → Gate → List ℕ
coded u g = set u (result g) (gate_code (code_at u) g)

abbrev pub coded_all : List ℕ → List Gate → List ℕ
coded_all u [] = u
coded_all u (g ∷ gs) = coded_all (coded u g) gs

-- the changes of gates, from the codes u on
abbrev pub code_changes : List ℕ → List Gate → ℕ
code_changes u [] = 0
code_changes u (g ∷ gs) = gate_change (code_at u) g + code_changes (coded u g) gs

-- the codes of the inputs, a public bit's 1, and 0 for the wires that are not given yet
abbrev pub input_code : ℕ → ℕ
input_code e = cond (is_public e) 1 e

abbrev pub first_codes : Netlist → List ℕ → List ℕ
first_codes N codes = map input_code codes ++ replicate (N.wires - input_bits N) 0

-- the changes of outputs with these codes
abbrev pub end_changes : List ℕ → List ℕ → ℕ
end_changes [] ws = 0
end_changes (e ∷ es) [] = 0
end_changes (e ∷ es) (w ∷ ws) = output_change e w + end_changes es ws

-- the codes before gate i under a choice, and the changes of the gates before it
abbrev pub codes_before : Netlist → List ℕ → Choice → ℕ → List ℕ
codes_before N codes d i = coded_all (first_codes N (chosen_inputs codes d))
    (chosen_gates d (input_bits N) (take i N.gates))

abbrev pub changes_before : Netlist → List ℕ → Choice → ℕ → ℕ
changes_before N codes d i = code_changes (first_codes N (chosen_inputs codes d))
    (chosen_gates d (input_bits N) (take i N.gates))

-- so many at least under every choice that agrees before gate i: the changes before it, and one for each gate from i on
-- that names one wire twice
abbrev pub least_before : Netlist → List ℕ → Choice → ℕ → ℕ
least_before N codes d i = changes_before N codes d i + twices (drop i N.gates)

-- the gates from i on under a choice
abbrev pub gates_from : Netlist → Choice → ℕ → List Gate
gates_from N d i = chosen_gates d (input_bits N + i) (drop i N.gates)

-- the choice after d: place p takes its next way, and the places after it their first
abbrev pub moved : Choice → ℕ → Choice
moved d p q = cond (ltb q p) (d q) (cond (eqb q p) (suc (d p)) 0)
