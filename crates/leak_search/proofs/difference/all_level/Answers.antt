-- `check_leak::difference::all_level` meets its contract.
use borrow.Author.Count.{below_more}
use Rattle.leak_search.proofs.Nibbles.{same-counts, no-nibble, or-none, or-both, all_same}
use borrow.Author.Rules.{rules}
use native.Mathlib.Omega.{arith}
use Rattle.leak_search.proofs.difference.all_level.Goals as goal

pub loop-w-preserved : goal.loop-w-preserved
loop-w-preserved c =
    let at = c.loop-w in
    let differ = c.differ-d in (
      λ e.
          let z = or-none at.d differ.result e in
          below_more _ _ (at.invariant.0 z.0) (λ s l. same-counts (differ.ensures s l) (no-nibble s z.1)),
      λ all. or-both (at.invariant.1 (λ v l. all v (omega arith)))
          (all_same (search rules) differ.ensures (all at.w (omega arith))),
    )
