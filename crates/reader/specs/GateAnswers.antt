-- What the answers of the gate line's readers mean.
use Rattle.std.specs.Prelude.{ℕ, Option, Some, None, ◌≡◌}
use Rattle.std.proofs.Math.Option as maybe
use Rattle.std.proofs.Math.Option.{none, some}
use Rattle.netlist.specs.declared.Gate.{Gate}
use Rattle.netlist.specs.declared.Gate.TheVariants.{Xor, And, Inv, Eqw, Eq}
use Rattle.text.specs.declared.cursor.Cursor.{Cursor}
use Rattle.text.specs.Cursors.{LineTaken}
use Rattle.gates.specs.declared.GateNumbers.{GateNumbers}
use Rattle.gates.specs.declared.Kind.{Kind}
use Rattle.gates.specs.declared.Kind.TheVariants as kind
use Rattle.gates.specs.Numbers.{gate_said}

-- the numbers of a kind
abbrev pub numbers_for : Kind → ℕ → ℕ → ℕ → GateNumbers
numbers_for k a b c = record { kind = k; left = a; right = b; result = c }

-- the numbers that a gate is given as
abbrev pub numbers_of : Gate → GateNumbers
numbers_of (Xor a b c) = numbers_for kind.Xor a b c
numbers_of (And a b c) = numbers_for kind.And a b c
numbers_of (Inv a c) = numbers_for kind.Inv a 0 c
numbers_of (Eqw a c) = numbers_for kind.Eqw a 0 c
numbers_of (Eq v c) = numbers_for (kind.Eq v) 0 0 c

unfoldable pub named_for : maybe.Option Gate → Option GateNumbers
named_for none = None
named_for (some g) = Some (numbers_of g)

-- no other numbers stand for a gate
abbrev pub NamedExact : Option GateNumbers → Type 0
NamedExact (Some g) = g ≡ numbers_of (gate_said g)
NamedExact None = Unit {0}

abbrev pub gate_named : Option GateNumbers → maybe.Option Gate
gate_named (Some g) = some (gate_said g)
gate_named None = none

abbrev pub line_gate : Option (GateNumbers × Cursor) → maybe.Option Gate
line_gate (Some (g, c)) = some (gate_said g)
line_gate None = none

-- after a gate the next line starts
abbrev pub LineNext : Cursor → Option (GateNumbers × Cursor) → Type 0
LineNext c (Some (g, d)) = LineTaken c d
LineNext c None = Unit {0}

abbrev pub LineExact : Option (GateNumbers × Cursor) → Type 0
LineExact (Some (g, c)) = g ≡ numbers_of (gate_said g)
LineExact None = Unit {0}

-- the first line from c reads as the gate that is expected of it, or as none
pub record LineIs (c : Cursor) (expected : maybe.Option Gate) (r : Option (GateNumbers × Cursor)) : Type 0 where
  pub gate : line_gate r ≡ expected
  pub numbers : LineExact r
  pub next : LineNext c r
