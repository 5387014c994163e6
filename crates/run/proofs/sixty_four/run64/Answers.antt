-- `run64`: words are the entries.
use Rattle.run.proofs.SixtyFourRuns.{promise}
use Rattle.run.proofs.sixty_four.run64.Goals as goal

pub returns : goal.returns
returns c =
    let s = c.args in
    promise s.sizes s.text.now s.list.now s.out.now s.operands.now s.results.now s.marks.now s.words.now
    c.run.ensures.answers c.run.ensures.cleared
