-- `search`: both answers, from what was found lowest.
use mathlib.Core.Path.{sym, subst}
use Prim.Native.Nat.{ℕ}
use lib.ListN.{length}
use Rattle.check_wide.specs.Judging.{Given, Lowest}
use Rattle.check_wide.proofs.Answers.{clean-told, pairs-told}
use native.Mathlib.Omega.{arith}
use Rattle.check_wide.proofs.search.search.Goals as goal
use Rattle.gates.specs.Gates.{tables_of}
use Rattle.check_wide.specs.WireSets.{sets_of}
use Rattle.check_wide.proofs.search.search.Goals.{then-worst-words, else-worst-words}

pub returns : goal.returns
returns c =
    let a = c.args in
    let low = c.lowest-worst in
    let w = low.auto.words in
    let t = tables_of a.job.gates in
    let S = sets_of a.job.items.sets in
    λ o N G.
    let L = low.ensures.2 o N G in (
      elim c.if-worst-words.branch [
        | then-worst-words w' ↦
            rw w'.leak-is (w'.tell-leak.ensures o low.result.pair a.job.items.pairs.now N
            (subst (λ (Y : ℕ). Given t a.job.gates.count Y (length a.job.codes.list.now) S o N) (sym w) G)
            (subst (λ (Y : ℕ). Lowest N a.job.codes.list.now a.job.items.pairs.now Y low.result.wire low.result.pair)
            (sym w) L))
        | else-worst-words w' ↦ rw w'.leak-is (sym (clean-told G L (omega (arith, w'.if-worst-words.false, w))))
      ],
      rw c.then_some.ensures (pairs-told L),
    )
