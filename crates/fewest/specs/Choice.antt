-- The choices of a call (docs/RULES.md, Fewest changes): a code for each free input, then written or swapped operands
-- for each AND.
use Rattle.std.specs.Prelude.{ℕ, suc, ◌+◌, ◌*◌, ◌/◌, ◌%◌, ◌<◌, Bool, cond, ◌≡◌, List, [], ◌∷◌, ◌++◌, map, eqb, leb}
use Rattle.std.specs.Prelude.{length, get_or}
use Rattle.netlist.specs.declared.Gate.{Gate}
use Rattle.netlist.specs.declared.Gate.TheVariants.{Xor, And, Inv, Eqw, Eq}
use Rattle.netlist.specs.Netlist.{Netlist, input_bits}

-- an input code of this call: 0 a public bit, 1 to 3 a mask code, 4 free
abbrev pub is_call_code : ℕ → Bool
is_call_code e = leb e 4

abbrev pub is_free : ℕ → Bool
is_free e = eqb e 4

-- in how many ways an input and a gate can be had: one where there is no choice
abbrev pub input_ways : ℕ → ℕ
input_ways e = cond (is_free e) 3 1

abbrev pub gate_ways : Gate → ℕ
gate_ways (Xor a b c) = 1
gate_ways (And a b c) = 2
gate_ways (Inv a c) = 1
gate_ways (Eqw a c) = 1
gate_ways (Eq v c) = 1

-- the ways of each place: the inputs in order, then the gates in order
abbrev pub ways : List ℕ → List Gate → List ℕ
ways codes gates = map input_ways codes ++ map gate_ways gates

abbrev pub product : List ℕ → ℕ
product [] = 1
product (b ∷ bs) = b * product bs

-- a choice: which of its ways each place takes, counted from 0
abbrev pub Choice : Type 0
Choice = ℕ → ℕ

-- two choices that agree in the places before k
abbrev pub Agree : ℕ → Choice → Choice → Type 0
Agree k d f = (p : ℕ) → p < k → d p ≡ f p

-- each place takes one of its ways
abbrev pub Takes : List ℕ → Choice → Type 0
Takes bs d = (p : ℕ) → p < length bs → d p < get_or bs p 0

-- the ways taken by choice number j, the last place varying fastest
abbrev pub digits : List ℕ → ℕ → List ℕ
digits [] j = []
digits (b ∷ bs) j = j / product bs ∷ digits bs (j % product bs)

-- way 0 of a free input is code 1
abbrev pub chosen_code : ℕ → ℕ → ℕ
chosen_code d e = cond (is_free e) (d + 1) e

-- the codes from place p on
abbrev pub chosen_codes : Choice → ℕ → List ℕ → List ℕ
chosen_codes d p [] = []
chosen_codes d p (e ∷ es) = chosen_code (d p) e ∷ chosen_codes d (suc p) es

-- way 1 of an AND is the swapped one
abbrev pub chosen_gate : ℕ → Gate → Gate
chosen_gate d (Xor a b c) = Xor a b c
chosen_gate d (And a b c) = cond (eqb d 1) (And b a c) (And a b c)
chosen_gate d (Inv a c) = Inv a c
chosen_gate d (Eqw a c) = Eqw a c
chosen_gate d (Eq v c) = Eq v c

-- the gates from place p on
abbrev pub chosen_gates : Choice → ℕ → List Gate → List Gate
chosen_gates d p [] = []
chosen_gates d p (g ∷ gs) = chosen_gate (d p) g ∷ chosen_gates d (suc p) gs

-- the source and its input codes under a choice
abbrev pub chosen_source : Netlist → Choice → Netlist
chosen_source N d = record {
  wires = N.wires;
  inputs = N.inputs;
  outputs = N.outputs;
  gates = chosen_gates d (input_bits N) N.gates;
}

abbrev pub chosen_inputs : List ℕ → Choice → List ℕ
chosen_inputs codes d = chosen_codes d 0 codes

-- how many choices there are, and choice number j
abbrev pub choices : Netlist → List ℕ → ℕ
choices N codes = product (ways codes N.gates)

abbrev pub choice : Netlist → List ℕ → ℕ → Choice
choice N codes j p = get_or (digits (ways codes N.gates) j) p 0
