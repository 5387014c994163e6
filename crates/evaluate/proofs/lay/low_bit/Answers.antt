-- `evaluate::lay::low_bit` meets its contract.
use Rattle.evaluate.proofs.Lanes.{bit-first}
use Rattle.evaluate.proofs.lay.low_bit.Goals as goal

pub returns : goal.returns
returns c = bit-first c.args.word
