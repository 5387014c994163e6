-- `certify_records::align::aligned` meets its contract.
use mathlib.Core.Path.{ap, ◌∙◌}
use Rattle.certify_records.specs.Made.{high_of, room_first_of, room_second_of, aligned_second, aligned_third}
use Rattle.certify_records.proofs.align.aligned.Goals as goal

pub returns-clause-is : goal.returns-clause-is
returns-clause-is c =
    c.align-3.ensures.is high_of (λ r s p. p.1.1)
    ∙ ap aligned_third (c.align-2.ensures.is room_second_of (λ r s p. p.1.1)
    ∙ ap aligned_second (c.align.ensures.is room_first_of (λ r s p. p.1.1)))
