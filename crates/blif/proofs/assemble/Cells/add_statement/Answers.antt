-- `add_statement` meets its contract: the cell of a cover is had where it was added.
use Rattle.std.proofs.Common.{subst, sym}
use Rattle.blif.specs.Meaning.{HasStatement}
use Rattle.blif.proofs.Wiring.{had_cover}
use Rattle.blif.proofs.assemble.Cells.add_statement.Goals as goal

pub returns-in_ok-add_names-in-OfNames-clause-had : goal.returns-in_ok-add_names-in-OfNames-clause-had
returns-in_ok-add_names-in-OfNames-clause-had c =
    subst (HasStatement c.add_names.new.self.cells.items) (sym c.in-OfNames.is)
    (had_cover c.in-OfNames.names _ _ c.in_ok-add_names-in-OfNames.ensures)
