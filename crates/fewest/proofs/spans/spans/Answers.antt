-- `spans::spans`: the places from p on are done.
use Prim.Native.Nat.{suc, ◌-◌}
use mathlib.Core.Path.{◌≡◌}
use Rattle.fewest.proofs.Advancing.{ways-some}
use Rattle.fewest.proofs.Spanning.{spanning-more, capped-same}
use native.Mathlib.Omega.{arith}
use Rattle.fewest.proofs.spans.spans.Goals as goal

pub loop-p-preserved : goal.loop-p-preserved
loop-p-preserved c =
    let e : c.loop-p.p ≡ suc (c.loop-p.p - 1) = omega arith in
    spanning-more (rw e at c.loop-p.invariant) (omega arith) (omega arith)
    (ways-some c.args.codes.now c.args.results.now (c.loop-p.p - 1))
    (capped-same c.loop-p.span c.ways.ensures c.from.ensures c.saturating_mul-span.ensures)
