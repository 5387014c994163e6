-- A gate put after the others where there is room.
use Rattle.from_aiger.proofs.Placing.{kept_on}
use Rattle.from_aiger.proofs.keep.keep.Goals as goal

pub returns-then-at-results : goal.returns-then-at-results
returns-then-at-results c = λ n gs e m k.
    kept_on gs e (record { operands = c.if-at-operands.true; results = c.if-at-results.true }) (c.from.ensures.1 n m)
    c.put.ensures k
