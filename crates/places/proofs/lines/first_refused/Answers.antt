-- `first_refused`: one line more that passes, or the first that does not.
use mathlib.Core.Path.{sym, ◌∙◌}
use Rattle.places.proofs.Walking.{walking-start, walking-end, walking-no, walking-refused, walking-on}
use Rattle.places.proofs.lines.first_refused.Goals as goal

pub loop-found-init : goal.loop-found-init
loop-found-init c = walking-start _ _ _ _ _ c.requires

pub returns-in-Ok-None : goal.returns-in-Ok-None
returns-in-Ok-None c =
    let s = rw c.in-Ok-None.field-0-is at c.in-Ok-None.ensures in walking-end c.loop-found.invariant s.said

pub returns-in-Err : goal.returns-in-Err
returns-in-Err c = walking-no c.loop-found.invariant _ c.in-Err.ensures.said

pub returns-in-Some : goal.returns-in-Some
returns-in-Some c =
    let s = rw c.in-Ok-Some.field-0-is at c.in-Ok-Some.ensures in
    walking-refused c.loop-found.invariant c.in-Ok-Some.found.0 s.said _ _ (sym c.gate_refused.ensures ∙ c.in-Some.is)

pub loop-found-preserved : goal.loop-found-preserved
loop-found-preserved c =
    let s = rw c.in-Ok-Some.field-0-is at c.in-Ok-Some.ensures in
    rw c.result_of.ensures
    (walking-on c.loop-found.invariant c.in-Ok-Some.found.0 s.said _ (sym c.gate_refused.ensures ∙ c.in_default.is)
    s.passed.0 s.passed.1)
