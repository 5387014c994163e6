-- The counts, and what stands after them.
use mathlib.Core.Path.{refl}
use native.Mathlib.Omega.{arith}
use borrow.Author.Rules.{rules}
use Rattle.reader.proofs.GateForms.{gate-form, counted-one, counted-two, counted-other}
use Rattle.reader.proofs.GateWords.{line-not, line_same}
use Rattle.reader.proofs.OperandCounts.{line-operands}
use Rattle.reader.proofs.gate_line.gate_line.Goals as goal

pub returns-in_err-n : goal.returns-in_err-n
returns-in_err-n c = rw c.from_residual.ensures (line_same _ _ _ _ (gate-form _) (line-not _ _ c.in_err-n.ensures))

pub returns-in-1 : goal.returns-in-1
returns-in-1 c =
    line_same _ _ _ _ (gate-form _)
    (line-operands _ _ _ c.in_ok-n.ensures _ (line_same _ _ _ _ (counted-one _ _ _ refl c.in-1.is)
    c.one_operand.ensures))

pub returns-in-2 : goal.returns-in-2
returns-in-2 c =
    line_same _ _ _ _ (gate-form _)
    (line-operands _ _ _ c.in_ok-n.ensures _ (line_same _ _ _ _
    (counted-two _ _ _ refl (λ e. omega (arith, c.in-2.is)) c.in-2.is) c.two_operands.ensures))

pub returns-in_default : goal.returns-in_default
returns-in_default c =
    line_same _ _ _ _ (gate-form _)
    (line-operands _ _ _ c.in_ok-n.ensures _ (line-not _ _ (counted-other _ _ _ refl (search rules) (search rules))))
