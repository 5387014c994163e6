-- `evaluate::run` meets its contract.
use Prim.Native.Nat.{◌-◌}
use Rattle.gates.specs.Gates.{tables_of}
use Rattle.evaluate.proofs.Steps.{Ahead}
use Rattle.evaluate.proofs.run.Given as goal

abbrev pub invariant-loop-i : goal.invariant-loop-i
invariant-loop-i l = Ahead (tables_of l.gates) l.gates.count l.initial.words l.words (l.i - 1) l.next
