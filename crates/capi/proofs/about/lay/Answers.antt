-- `lay`: the words and what stands after them.
use borrow.Author.Rules.{rules}
use borrow.Author.Tests.{le-leb}
use Rattle.capi.proofs.Fronts.{front-of}
use Rattle.capi.proofs.about.lay.Goals as goal

pub returns-then-count-buffer : goal.returns-then-count-buffer
returns-then-count-buffer c = record {
  count = search rules;
  buffer = rw (le-leb _ _ c.if-count-buffer.true) (front-of c.args.words.now c.args.buffer.now _ c.if-count-buffer.true c.copy.ensures);
}
