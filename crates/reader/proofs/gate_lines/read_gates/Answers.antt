-- `read_gates`: the first i lines are read.
use mathlib.Core.Path.{◌∙◌}
use native.Mathlib.Omega.{arith}
use borrow.Author.Rules.{rules}
use Rattle.reader.proofs.Reading.{reading-more, reading-short, reading-refused, reading-more-left, reading-all}
use Rattle.reader.proofs.Reading.{first-number}
use Rattle.reader.proofs.gate_lines.read_gates.Goals as goal

pub returns-then-text-start : goal.returns-then-text-start
returns-then-text-start c =
    reading-short _ _ c.loop-i.invariant.1 c.loop-i.invariant.0 c.skip_blanks-start.ensures _ c.loop-i-test.true
    c.if-text-start.true

pub returns-in-Err : goal.returns-in-Err
returns-in-Err c =
    rw (c.first.ensures, first-number)
    (reading-refused _ _ c.loop-i.invariant.1 c.loop-i.invariant.0 c.skip_blanks-start.ensures _ _
    (omega (arith, c.loop-i-test.true)) c.if-text-start.false
    (c.in-Err.ensures c.loop-i.invariant.0.results c.loop-i.invariant.0.marks))

pub loop-i-preserved : goal.loop-i-preserved
loop-i-preserved c =
    let v = c.loop-i.invariant.0 in
    let a = c.in-Ok.ensures v.results v.marks in
    let e = c.loop-i.invariant.1 in (
      reading-more _ _ e v c.skip_blanks-start.ensures c.if-text-start.false a (c.store.ensures _ a.names),
      a.next.same
          ∙ c.skip_blanks-start.ensures.same ∙ e,
    )

pub returns-then-end-text : goal.returns-then-end-text
returns-then-end-text c = reading-more-left _ _ c.loop-i.invariant.1 c.loop-i.invariant.0 c.skip_blanks-end.ensures _
    (search rules) (search rules) c.if-end-text.true

pub returns : goal.returns
returns c = reading-all _ _ c.loop-i.invariant.1 c.loop-i.invariant.0 c.skip_blanks-end.ensures _ (search rules)
    (search rules) c.if-end-text.false
