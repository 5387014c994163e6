-- The cells so far are those of before and more.
use Rattle.blif.specs.Meaning.{Adds}
use Rattle.blif.proofs.instances.add_instance.Given as goal

abbrev pub invariant-loop-place : goal.invariant-loop-place
invariant-loop-place l = Adds l.fn.cells.items l.cells.items
