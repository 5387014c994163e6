-- `causes::causes`: gate by gate.
use Rattle.std.proofs.Common.{◌≡◌, ℕ, Bool, length}
use Rattle.netlist.specs.Table.{gates_of}
use Rattle.gates.specs.Gates.{tables_of}
use Rattle.causes.specs.Marked.{Tested, Told}
use Rattle.causes.proofs.causes.causes.Given as goal

abbrev pub invariant-loop-i : goal.invariant-loop-i
invariant-loop-i l = (length l.marks ≡ length l.initial.marks) × ((u : ℕ → Bool)
    → Tested u (length l.initial.marks) l.initial.marks
    → Told u (gates_of (tables_of l.gates) l.i) (length l.initial.marks) l.marks)
