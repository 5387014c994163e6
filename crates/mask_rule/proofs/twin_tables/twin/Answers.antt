-- `twin` meets its contract.
use Rattle.mask_rule.proofs.States.{twins-at}
use Rattle.mask_rule.proofs.twin_tables.twin.Goals as goal

pub returns : goal.returns
returns c = let a = c.args in twins-at a.twin_wires.now a.twin_codes.now a.wire c.requires.0 c.requires.1
