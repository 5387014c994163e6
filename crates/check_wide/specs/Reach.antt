-- Which inputs reach a wire through gate lines (docs/RULES.md, Many inputs).
use Rattle.std.specs.Prelude.{ℕ, zero, suc, ◌+◌, Bool, true, false, ◌||◌, List, [], ◌∷◌, set, replicate}
use Rattle.netlist.specs.declared.Gate.{Gate}
use Rattle.netlist.specs.declared.Gate.TheVariants.{Xor, And, Inv, Eqw, Eq}
use Rattle.netlist.specs.Netlist.{Netlist, result}
use Rattle.netlist.specs.Eval.{bits_at}

-- a gate's result is marked where one of its operands is; EQ has none
abbrev pub touched : (ℕ → Bool) → Gate → Bool
touched u (Xor a b c) = u a || u b
touched u (And a b c) = u a || u b
touched u (Inv a c) = u a
touched u (Eqw a c) = u a
touched u (Eq v c) = false

-- the marks of all wires after gates, line by line
abbrev pub mark_gates : List Bool → List Gate → List Bool
mark_gates v [] = v
mark_gates v (g ∷ gs) = mark_gates (set v (result g) (touched (bits_at v) g)) gs

-- input bit i reaches wire w: with its wire alone marked before the first line, w is marked after the last
unfoldable pub reaches : Netlist → ℕ → ℕ → Bool
reaches N i w = bits_at (mark_gates (set (replicate N.wires false) i true) N.gates) w

-- a set of the first input bits, as a mark for each
abbrev pub marks : (ℕ → Bool) → ℕ → ℕ → List Bool
marks t i zero = []
marks t i (suc k) = t i ∷ marks t (i + 1) k

-- how many there are
abbrev pub size : List Bool → ℕ
size [] = 0
size (true ∷ ks) = suc (size ks)
size (false ∷ ks) = size ks

-- the rising list of the places from i on that are one
abbrev pub places : ℕ → List Bool → List ℕ
places i [] = []
places i (true ∷ x) = i ∷ places (i + 1) x
places i (false ∷ x) = places (i + 1) x

-- of the first n input bits, those that reach wire w, and those that reach one of two wires
abbrev pub reach : Netlist → ℕ → ℕ → List Bool
reach N n w = marks (λ i. reaches N i w) 0 n

abbrev pub reach_pair : Netlist → ℕ → ℕ → ℕ → List Bool
reach_pair N n u v = marks (λ i. reaches N i u || reaches N i v) 0 n
