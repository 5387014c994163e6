-- `leak::nibble::first` meets its contract.
use borrow.Author.Rules.{rules}
use Rattle.leak_search.proofs.Nibbles.{first-law}
use Rattle.leak_search.proofs.nibble.first.Goals as goal

pub returns : goal.returns
returns c = first-law c.args.differences (search rules) c.requires
