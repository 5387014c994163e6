-- Two numbers, of which the second is 1.
use Rattle.reader.proofs.OperandCounts.{no-operands, no-results, other-results, one-result}
use Rattle.reader.proofs.operands.any_operands.Goals as goal

pub returns-in_default : goal.returns-in_default
returns-in_default c = no-operands c.args.at c.in_default.ensures

pub returns-in_default-next_number : goal.returns-in_default-next_number
returns-in_default-next_number c = no-results _ _ _ c.in-Some.ensures c.in_default-next_number.ensures

pub returns-then-results-ne1 : goal.returns-then-results-ne1
returns-then-results-ne1 c = other-results _ _ _ c.in-Some.ensures _ _ c.in-Some-next_number.ensures
    c.if-results-ne1.true

pub returns : goal.returns
returns c = one-result _ _ _ c.in-Some.ensures _ _ c.in-Some-next_number.ensures c.if-results-ne1.false
