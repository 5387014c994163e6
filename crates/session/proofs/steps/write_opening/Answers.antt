-- `write_opening`: the masks' gates, then one for each public bit.
use Rattle.std.proofs.Common.{arith}
use Rattle.session.proofs.Writes.{opening-none, open-most, next-most, length-same, next-below, opening-public}
use Rattle.session.proofs.Writes.{opening-secret, opening-all}
use Rattle.session.proofs.steps.write_opening.Goals as goal
use Rattle.session.proofs.steps.write_opening.Goals.{then-e-eq0, else-e-eq0}

pub loop-w-init : goal.loop-w-init
loop-w-init c = rw (c.from.ensures, c.from-2.ensures, c.from-3.ensures) (opening-none c.args.codes.now c.args.list.now)

pub returns-then-next-count : goal.returns-then-next-count
returns-then-next-count c = opening-all c.loop-w.invariant (omega (arith, c.requires, c.if-next-count.true))

pub overflow_cast-next : goal.overflow_cast-next
overflow_cast-next c = omega (arith, next-most c.loop-w.invariant, open-most c.args.codes.now)

pub overflow_add-n-then-e-eq0-2 : goal.overflow_add-n-then-e-eq0-2
overflow_add-n-then-e-eq0-2 c = omega (arith, next-most c.loop-w.invariant, open-most c.args.codes.now)

pub bounds-list-next : goal.bounds-list-next
bounds-list-next c = omega (
  arith,
  next-below c.loop-w.invariant (omega arith) (omega arith),
  length-same
      c.loop-w.invariant,
)

pub loop-w-preserved : goal.loop-w-preserved
loop-w-preserved c = elim c.if-e-eq0.branch [
  | then-e-eq0 w ↦ rw (w.next-is, w.list-is) (opening-public c.loop-w.invariant c.loop-w-test.true w.if-e-eq0.true
      w.from-then-e-eq0.ensures)
  | else-e-eq0 w ↦ rw (w.next-is, w.list-is) (opening-secret c.loop-w.invariant c.loop-w-test.true w.if-e-eq0.false)
]
