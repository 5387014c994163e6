-- `check_pairs`: the answer, and then zero in every table.
use mathlib.Core.Path.{sym, ap, ◌∙◌}
use borrow.Author.Rules.{rules}
use Rattle.check_pairs.specs.Judge.{outcome_of}
use Rattle.check_pairs.proofs.Calling.{call-judged, call-check}
use Rattle.check_pairs.proofs.check_pairs.Goals as goal

pub returns : goal.returns
returns c =
    let s = c.args in
    let a = c.answer-r in
    record {
      outcome = a.ensures;
      judged = call-judged s.sizes s.text.now s.codes.now s.pairs.now s.operands.now s.results.now s.marks.now
          s.words.now
          s.base.now s.bases.now a.result a.ensures;
      check = λ f e. call-check s.sizes s.text.now s.codes.now s.pairs.now s.operands.now s.results.now s.marks.now
          s.words.now s.base.now s.bases.now f (sym (ap outcome_of e) ∙ a.ensures);
      operands = search rules;
      results = search rules;
      marks = search rules;
      words = search rules;
      base = search rules;
      bases = search rules;
    }
