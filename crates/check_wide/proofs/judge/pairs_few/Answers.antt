-- `pairs_few`: every pair is tested.
use Prim.Native.Nat.{◌/◌, ◌≤◌, ◌<◌}
use mathlib.Core.Path.{refl}
use lib.ListN.{length}
use native.Mathlib.Omega.{arith}
use borrow.Author.Rules.{rules}
use borrow.Author.Tests.{tests}
use Rattle.std.proofs.lemmas.Iterator.{YieldsList-from_range, cases_from_all}
use Rattle.check_wide.specs.WireSets.{sets_of}
use Rattle.check_wide.specs.Items.{pair_at}
use Rattle.check_wide.proofs.Fews.{few-told}
use Rattle.check_wide.proofs.judge.pairs_few.Goals as goal

pub returns : goal.returns
returns c =
    let S = sets_of c.args.sets in
    let ws = c.args.pairs.now in
    few-told S ws c.all.result
    (cases_from_all _ _ _ (λ j. length (pair_at S ws j) ≤ 12) (λ j. 12 < length (pair_at S ws j)) c.all.ensures.ran
    (YieldsList-from_range 0 (length ws / 2) (length ws / 2) refl (omega arith))
    (λ x q k. search (rules, tests)) (λ x q k. search (rules, tests)))
