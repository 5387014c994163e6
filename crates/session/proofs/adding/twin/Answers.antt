-- `twin`: a secret input's, a public one's, or a record's.
use Rattle.std.proofs.Common.{rules, ap, ◌∙◌, arith}
use Rattle.gates.specs.Records.{blank_source, twin_in}
use Rattle.session.proofs.Adds.{twin-record, twin-secret, twin-public}
use Rattle.session.proofs.adding.twin.Goals as goal

pub returns-in-0 : goal.returns-in-0
returns-in-0 c = let a = c.args in rw c.publics.ensures (twin-public a.codes.now a.source.now a.result_wire
    (omega arith)
    c.in-0.is)

pub returns-in_default : goal.returns-in_default
returns-in_default c = let a = c.args in twin-secret a.codes.now a.source.now a.result_wire (omega arith) (omega arith)

pub returns : goal.returns
returns c = let a = c.args in c.twin.ensures ∙ ap twin_in (c.entry.ensures blank_source (λ x p. search rules))
    ∙ twin-record a.codes.now a.source.now a.result_wire (omega arith)
