-- The statements so far have their cells.
use Rattle.std.proofs.Common.{take}
use Rattle.std.specs.List.{All}
use Rattle.blif.specs.Meaning.{HasStatement}
use Rattle.blif.proofs.assemble.assemble.Given as goal

abbrev pub invariant-loop-statement : goal.invariant-loop-statement
invariant-loop-statement l = All (HasStatement l.cells.cells.items) (take l.statement-index l.model.statements.items)
