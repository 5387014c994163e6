-- `truth::store`: lane by lane.
use Rattle.std.proofs.Common.{sym, subst, ◌+◌}
use Rattle.evaluate.proofs.Lanes.{bit-low}
use Rattle.explain.proofs.Laying.{Storing, storing-more}
use Rattle.explain.proofs.truth.store.Goals as goal

pub loop-j-preserved : goal.loop-j-preserved
loop-j-preserved c =
    let a = c.args in
    let at = c.loop-j in
    subst (λ t. Storing a.word a.from a.table.now t (at.j + 1)) (sym c.put.ensures)
    (storing-more _ at.invariant (bit-low at.j a.word))
