-- `entry`: the record's no, or its entries.
use Rattle.std.proofs.lemmas.Result.{err_from_is_err_and}
use mathlib.Core.Path.{sym}
use native.Mathlib.Omega.{arith}
use Rattle.session.proofs.Gates.{record-yes}
use Rattle.session.proofs.entries.entry.Goals as goal

pub returns-in_err-kind : goal.returns-in_err-kind
returns-in_err-kind c =
    let p = err_from_is_err_and c.from_residual.result c.from_residual.ensures.1 in
    rw (p.1, p.2) (sym (rw c.from-g.ensures at c.in_err-kind.ensures))

pub returns : goal.returns
returns c =
    let a = c.args in
    record-yes a.source a.next c.in_ok-kind.kind (rw c.from-g.ensures at c.in_ok-kind.ensures) c.from.ensures
    (omega arith)
    (omega arith)
