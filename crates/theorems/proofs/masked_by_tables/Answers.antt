use Rattle.theorems.proofs.CodeTables.{same-by-tables}
use Rattle.theorems.proofs.masked_by_tables.Goals as goal

pub returns : goal.returns
returns c = same-by-tables
