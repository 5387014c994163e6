-- `leak::nibble::repeat` meets its contract.
use Rattle.leak_search.proofs.Nibbles.{repeat-law}
use Rattle.leak_search.proofs.nibble.repeat.Goals as goal

pub returns : goal.returns
returns c s l = repeat-law c.args.differences s l
