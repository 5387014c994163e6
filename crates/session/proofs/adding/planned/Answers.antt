-- `planned`: the first no, or what is written.
use Rattle.std.proofs.Common.{refl, arith}
use Rattle.std.proofs.lemmas.Result.{err_from_is_err_and}
use Rattle.session.proofs.Adds.{first-refused, many-most, list_full, too_many, admits}
use Rattle.session.proofs.adding.planned.Goals as goal

pub returns-in_err-kind : goal.returns-in_err-kind
returns-in_err-kind c = λ masked lm. let a = c.args in
    let p = err_from_is_err_and c.from_residual.result c.from_residual.ensures.1 in
    rw (p.1, p.2) (first-refused a.sizes a.codes.now a.session a.source.now masked a.gate _ c.in_err-kind.ensures)

pub overflow_add-at : goal.overflow_add-at
overflow_add-at c = omega (arith, many-most c.in_ok-kind.kind c.twin-a.result c.twin-b.result c.count-many.ensures)

pub returns-then-room-at : goal.returns-then-room-at
returns-then-room-at c = λ masked lm. let a = c.args in
    list_full a.sizes a.codes.now a.session a.source.now masked a.gate c.in_ok-kind.kind c.in_ok-kind.ensures
    c.twin-a.ensures
    c.twin-b.ensures c.count-many.ensures
    (omega (arith, lm))

pub returns-then-at-many-gt-MOST : goal.returns-then-at-many-gt-MOST
returns-then-at-many-gt-MOST c = λ masked lm. let a = c.args in
    too_many a.sizes a.codes.now a.session a.source.now masked a.gate c.in_ok-kind.kind c.in_ok-kind.ensures
    c.twin-a.ensures
    c.twin-b.ensures c.count-many.ensures
    (omega arith)

pub returns : goal.returns
returns c = λ masked lm. let a = c.args in
    rw c.source.ensures (admits a.sizes a.codes.now a.session a.source.now masked a.gate c.in_ok-kind.kind
    c.in_ok-kind.ensures
    c.twin-a.ensures c.twin-b.ensures c.count-many.ensures
    _ refl c.twin.ensures (omega (arith, lm)) (omega arith))
