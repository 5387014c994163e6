-- Gates put into lent tables, where they fit: the gate that gives wire n is the first.
use Rattle.std.specs.Prelude.{ℕ, ◌+◌, ◌-◌, ◌*◌, List, [], ◌∷◌}
use Rattle.netlist.specs.declared.Gate.{Gate}
use Rattle.netlist.specs.declared.Gate.TheVariants.{Xor, And, Inv, Eqw, Eq}
use Rattle.netlist.specs.Table.{Tables, half, put_entry}

-- where there is no such place, nothing changes
abbrev pub packed : ℕ → Tables → ℕ → ℕ → ℕ → ℕ → Tables
packed n t k a b c = put_entry t (c - n) (a + b * half) (c + k * half)

abbrev pub put_gate : ℕ → Tables → Gate → Tables
put_gate n t (Xor a b c) = packed n t 1 a b c
put_gate n t (And a b c) = packed n t 2 a b c
put_gate n t (Inv a c) = packed n t 3 a a c
put_gate n t (Eqw a c) = packed n t 4 a a c
put_gate n t (Eq v c) = packed n t (5 + v) 0 0 c

unfoldable pub put_gates : ℕ → Tables → List Gate → Tables
put_gates n t [] = t
put_gates n t (g ∷ gs) = put_gates n (put_gate n t g) gs
