-- The two operands, and then the gate.
use Rattle.from_aiger.proofs.Adding.{and-added}
use native.Mathlib.Omega.{arith}
use Rattle.from_aiger.proofs.and_gates.and_gates.Goals as goal

pub returns : goal.returns
returns c = (
  and-added c.args.first
      c.args.second
      c.operand-l.ensures.0 c.operand-r.ensures.0
      c.keep.ensures,
  omega (
    arith,
    c.operand-l.ensures.1,
    c.operand-r.ensures.1,
  ),
  omega (
    arith,
    c.operand-l.ensures.1,
    c.operand-r.ensures.1,
  ),
)
