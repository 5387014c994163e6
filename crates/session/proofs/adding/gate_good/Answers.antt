-- `gate_good`: the first no, or the kind of the gate.
use Rattle.std.proofs.lemmas.Result.{err_from_is_err_and}
use Rattle.session.proofs.Plans.{no-seven, no-eight, no-nine, good}
use Rattle.session.proofs.adding.gate_good.Goals as goal

pub returns-in_err-kind : goal.returns-in_err-kind
returns-in_err-kind c =
    let p = err_from_is_err_and c.from_residual.result c.from_residual.ensures.1 in
    rw (p.1, p.2) (no-seven c.args.next c.args.gate c.in_err-kind.ensures)

pub returns-then-not-operands : goal.returns-then-not-operands
returns-then-not-operands c = no-eight c.args.next c.args.gate c.in_ok-kind.kind c.in_ok-kind.ensures c.operands.ensures
    c.if-not-operands.true

pub returns-then-gate-next : goal.returns-then-gate-next
returns-then-gate-next c = no-nine c.args.next c.args.gate c.in_ok-kind.kind c.in_ok-kind.ensures c.operands.ensures
    c.if-not-operands.false c.if-gate-next.true

pub returns : goal.returns
returns c = good c.args.next c.args.gate c.in_ok-kind.kind c.in_ok-kind.ensures c.operands.ensures
    c.if-not-operands.false
    c.if-gate-next.false
