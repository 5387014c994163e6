-- Two digits, of which the second is 1.
use Rattle.reader.proofs.OperandCounts.{one-result}
use Rattle.reader.proofs.operands.usual_operands.Goals as goal

pub returns-then-results-eq1 : goal.returns-then-results-eq1
returns-then-results-eq1 c = one-result _ _ _ c.in-Some.ensures.1 _ _ c.in-Some-take_digit.ensures.1
    c.if-results-eq1.true
