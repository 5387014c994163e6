-- A gate line read from the left, word by word.
use Rattle.std.specs.Prelude.{ℕ, cond, List, [], ◌∷◌, eqb}
use Rattle.std.proofs.Math.Option.{Option, none, some}
use Rattle.netlist.specs.declared.Gate.{Gate}
use Rattle.netlist.specs.Number.{number}
use Rattle.netlist.specs.GateLine.{gate1, gate2}

abbrev pub on_value : Option ℕ → (ℕ → Option Gate) → Option Gate
on_value none f = none
on_value (some x) f = f x

-- the first word is a number, and what is made of it and the words after it
unfoldable pub on_number : List (List ℕ) → (ℕ → List (List ℕ) → Option Gate) → Option Gate
on_number [] f = none
on_number (w ∷ ws) f = on_value (number w) λ x. f x ws

-- a gate after which no word stands
unfoldable pub alone : Option Gate → List (List ℕ) → Option Gate
alone g [] = g
alone g (w ∷ ws) = none

-- the one word that is left is a gate's name
unfoldable pub named : (List ℕ → Option Gate) → List (List ℕ) → Option Gate
named f [] = none
named f (name ∷ ws) = alone (f name) ws

-- what stands after the counts of a gate of one operand: its operand, its result and its name
abbrev pub one : List (List ℕ) → Option Gate
one ws = on_number ws λ a ws. on_number ws λ c ws. named (λ name. gate1 name a c) ws

-- of a gate of two operands
abbrev pub two : List (List ℕ) → Option Gate
two ws = on_number ws λ a ws. on_number ws λ b ws. on_number ws λ c ws. named (λ name. gate2 name a b c) ws

-- a gate of k operands and n results
unfoldable pub counted : ℕ → ℕ → List (List ℕ) → Option Gate
counted k n ws = cond (eqb n 1) (cond (eqb k 1) (one ws) (cond (eqb k 2) (two ws) none)) none

unfoldable pub gate_form : List (List ℕ) → Option Gate
gate_form ws = on_number ws λ k ws. on_number ws λ n ws. counted k n ws
