-- `is_marked`: entry x of the table is 1.
use borrow.Author.Rules.{rules}
use Rattle.reader.specs.Marks.{marked}
use Rattle.places.proofs.gate_words.is_marked.Goals as goal

pub returns : goal.returns
unfolding marked
returns c = search rules
