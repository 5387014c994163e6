-- `lowest`: the wires, then the pairs.
use mathlib.Core.Path.{sym, subst}
use Prim.Native.Nat.{ℕ, ◌/◌}
use lib.ListN.{length}
use Rattle.check_wide.specs.Judging.{Given, Judging}
use Rattle.check_wide.proofs.Answers.{first-wires, then-pairs, all-judged}
use native.Mathlib.Omega.{arith}
use Rattle.gates.specs.Gates.{tables_of}
use Rattle.check_wide.specs.WireSets.{sets_of}
use Rattle.check_wide.proofs.search.lowest.Goals as goal

pub returns : goal.returns
returns c =
    let a = c.args in
    let first = c.passes-worst in
    let second = c.passes in
    let w = first.auto.words in
    let W = length a.words.now in
    let t = tables_of a.job.gates in
    let S = sets_of a.job.items.sets in
    let cs = a.job.codes.list.now in
    let ws = a.job.items.pairs.now in
    let P = length ws / 2 in
    let one = first.result in
    let two = second.result in (
      omega (arith, first.ensures.0, second.ensures.0),
      omega (arith, first.ensures.1, second.ensures.1),
      λ o N G. all-judged (subst (λ (Y : ℕ). Judging N cs ws second.new.marks Y W P 0 two.wire two.pair) w
          (second.ensures.2 o N (subst (λ (Y : ℕ). Given t a.job.gates.count Y (length cs) S o N) (sym w) G)
          (subst (λ (Y : ℕ). Judging N cs ws
          c.fill-2.new.self Y W P P one.wire one.pair) (sym w)
          (then-pairs (length first.new.marks)
          (c.fill-2.ensures.after (λ y e. e)) (first.ensures.2 o N G (first-wires N cs ws W (length a.marks.now)
          (c.fill.ensures.after (λ y e. e)))))))),
    )
