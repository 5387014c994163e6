-- `passes`: from the last item to the first.
use mathlib.Core.Path.{◌≡◌, subst}
use Prim.Native.Nat.{ℕ}
use lib.ListN.{length}
use Rattle.check_wide.specs.Judging.{Judging}
use Rattle.check_wide.proofs.Passes.{passing-more}
use native.Mathlib.Omega.{arith}
use Rattle.check_wide.proofs.pass.passes.Goals as goal

pub loop-x-preserved : goal.loop-x-preserved
loop-x-preserved c =
    let h = c.loop-x.invariant in
    let r = c.pass-worst in
    let q = c.requires.lengths in
    passing-more h c.loop-x-test.true (omega (arith, c.requires.wired.1, q.1)) r.auto.paints r.auto.marks r.auto.words
    r.auto.base r.auto.bases r.ensures.0 r.ensures.1
    r.ensures.2

pub returns : goal.returns
returns c =
    let h = c.loop-x.invariant in
    let a = c.args in
    let at = c.loop-x in
    let z : c.loop-x.x ≡ 0 = omega (arith, c.loop-x-test.false) in (
      h.lower,
      h.fewer,
      λ o N G J. subst (λ (y : ℕ). Judging N a.job.codes.list.now a.job.items.pairs.now at.marks (length a.words.now)
          a.start a.total y
          at.worst.wire at.worst.pair) z (h.judged o N G J),
    )
