-- `certify_records::reduce::reduced` meets its contract.
use mathlib.Core.Path.{ap, ◌∙◌}
use Rattle.certify_records.specs.Made.{low_of, middle_of, high_of, without_first_of, without_second_of}
use Rattle.certify_records.specs.Made.{without_third_of}
use Rattle.certify_records.proofs.Records.{without-first, without-second, without-third, without-fourth}
use Rattle.certify_records.proofs.reduce.reduced.Goals as goal

pub without-a-requires-clause-left_out : goal.without-a-requires-clause-left_out
without-a-requires-clause-left_out c = λ h. let r = c.args.known in without-fourth r.table r.first r.second r.third
    r.fourth
    (h 3 tt)

pub without-b-requires-clause-left_out : goal.without-b-requires-clause-left_out
without-b-requires-clause-left_out c = λ h. let r = c.without-a.result in without-third r.table r.first r.second r.third
    r.fourth (h 2 tt)

pub without-c-requires-clause-left_out : goal.without-c-requires-clause-left_out
without-c-requires-clause-left_out c = λ h. let r = c.without-b.result in without-second r.table r.first r.second
    r.third r.fourth (h 1 tt)

pub without-requires-clause-left_out : goal.without-requires-clause-left_out
without-requires-clause-left_out c = λ h. let r = c.without-c.result in without-first r.table r.first r.second r.third
    r.fourth (h 0 tt)

pub returns-clause-is : goal.returns-clause-is
returns-clause-is c =
    c.without.ensures.is (λ r. high_of (middle_of (low_of r))) (λ r s p. p.1.1)
    ∙ ap without_first_of (c.without-c.ensures.is (λ r. high_of (middle_of r)) (λ r s p. p.1.1)
    ∙ ap without_second_of (c.without-b.ensures.is high_of (λ r s p. p.1.1)
    ∙ ap without_third_of (c.without-a.ensures.is (λ r. r) (λ r s p. p.1.1))))
