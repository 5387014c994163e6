-- `evaluate::gate::made` meets its contract.
use Rattle.evaluate.proofs.Made.{made-law}
use Rattle.evaluate.proofs.gate.made.Goals as goal

pub returns : goal.returns
returns c j l =
    made-law c.args.kind c.args.left c.args.right j c.chosen.result c.chosen-2.result c.requires (c.chosen.ensures j l)
    (c.chosen-2.ensures j l)
