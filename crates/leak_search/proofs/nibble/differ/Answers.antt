-- `leak::nibble::differ` meets its contract.
use mathlib.Core.Path.{ap, ◌∙◌}
use lib.Dec.{eqb}
use Rattle.leak_search.specs.Block.{nibble}
use Rattle.leak_search.proofs.Nibbles.{xor-nibble}
use Rattle.leak_search.proofs.nibble.differ.Goals as goal

pub returns : goal.returns
returns c s l = let base = c.args.base in xor-nibble base c.counts.result s
    ∙ ap (eqb (nibble base s)) (c.counts.ensures s l)
