-- `evaluate::gate::spread` meets its contract.
use Rattle.evaluate.proofs.Made.{spread-law}
use Rattle.evaluate.proofs.gate.spread.Goals as goal

pub returns : goal.returns
returns c j l = spread-law c.args.bits c.args.index j l
