-- Sets of inputs as rising lists of their numbers.
use Rattle.std.specs.Prelude.{ℕ, ◌/◌, ◌%◌, cond, List, [], ◌∷◌, eqb, ltb}
use Rattle.netlist.specs.declared.Gate.{Gate}
use Rattle.netlist.specs.declared.Gate.TheVariants.{Xor, And, Inv, Eqw, Eq}
use Rattle.netlist.specs.Netlist.{Netlist}
use Rattle.check_wide.specs.Reach.{places, reach}

-- inputs have lower numbers: there are at most 2^20 wires, and three such numbers fit in an entry of the tables of sets
abbrev pub members_end : ℕ
members_end = 1048576

-- the list x ∷ xs and another put together, given what xs makes of a list
abbrev pub merge_onto : (List ℕ → List ℕ) → ℕ → List ℕ → List ℕ → List ℕ
merge_onto rest x xs [] = x ∷ xs
merge_onto rest x xs (y ∷ ys) = cond (ltb x y) (x ∷ rest (y ∷ ys))
    (cond (ltb y x) (y ∷ merge_onto rest x xs ys) (x ∷ rest ys))

-- two rising lists put together, what both have once
abbrev pub merge : List ℕ → List ℕ → List ℕ
merge [] ys = ys
merge (x ∷ xs) ys = merge_onto (merge xs) x xs ys

-- the list of a gate's result, from those of its operands
abbrev pub gate_set : (ℕ → List ℕ) → Gate → List ℕ
gate_set s (Xor a b c) = merge (s a) (s b)
gate_set s (And a b c) = merge (s a) (s b)
gate_set s (Inv a c) = s a
gate_set s (Eqw a c) = s a
gate_set s (Eq v c) = []

-- the first n input bits that reach wire w
abbrev pub reach_set : Netlist → ℕ → ℕ → List ℕ
reach_set N n w = places 0 (reach N n w)

-- the first n input bits that reach one of two wires
abbrev pub pair_set : Netlist → ℕ → ℕ → ℕ → List ℕ
pair_set N n u v = merge (reach_set N n u) (reach_set N n v)

-- of a list, those whose bit of a number is one
abbrev pub picked : List ℕ → ℕ → List ℕ
picked [] t = []
picked (i ∷ is) t = cond (eqb (t % 2) 1) (i ∷ picked is (t / 2)) (picked is (t / 2))
