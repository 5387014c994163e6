-- Bytes with a name stand in a file of their own, others in what is printed.
use Rattle.std.proofs.Common.{rules, refl, inl, inr}
use Rattle.command_answer.proofs.answer.Answer.deliver.Goals as goal

pub returns-in_ok-push-in-Some-clause-bytes : goal.returns-in_ok-push-in-Some-clause-bytes
returns-in_ok-push-in-Some-clause-bytes c = rw c.in-Some.is (refl, (_, refl, c.in_ok-push-in-Some.ensures.items))

pub returns-in_ok-push-in-Some-clause-stands : goal.returns-in_ok-push-in-Some-clause-stands
returns-in_ok-push-in-Some-clause-stands c =
    inl (record { others = _; file = _; holds = refl; stands = c.in_ok-push-in-Some.ensures.items })
