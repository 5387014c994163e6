-- `try_open`: an opening has few gates.
use Rattle.std.proofs.Common.{arith}
use Rattle.session.proofs.Writes.{open-most}
use Rattle.session.proofs.steps.try_open.Goals as goal

pub overflow_cast-result : goal.overflow_cast-result
overflow_cast-result c = omega (
  arith,
  open-most c.args.codes.now,
  c.in_ok-count.ensures.count,
  c.in_ok-count.ensures.few,
)
