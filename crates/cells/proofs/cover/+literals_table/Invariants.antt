-- The measure of `literals_table`: the literals left.
use Rattle.std.proofs.Common.{length}
use Rattle.cells.proofs.cover.+literals_table.Given as goal

abbrev pub decreases-literals_table : goal.decreases-literals_table
decreases-literals_table l = length l.literals.now
