-- `gates::walk_gates`: the gates from one on up to gate i are done.
use Rattle.fewest.proofs.Walking.{walking-more, walked-cut}
use native.Mathlib.Omega.{arith}
use Rattle.fewest.proofs.gate_walk.walk_gates.Goals as goal

pub returns-then-bound-low : goal.returns-then-bound-low
returns-then-bound-low c =
    let I = walking-more c.loop-i.invariant
    c.loop-i-test.true
    c.requires.count_in_bounds.1
    (rw c.at.ensures at c.step-low.ensures) in
    walked-cut I (omega (arith, c.loop-i.invariant.after)) (omega arith) c.if-bound-low.true

pub loop-i-preserved : goal.loop-i-preserved
loop-i-preserved c =
    walking-more c.loop-i.invariant
    c.loop-i-test.true
    c.requires.count_in_bounds.1
    (rw c.at.ensures at c.step-low.ensures)
