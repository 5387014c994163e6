-- `scan`: the pairs before the first that is not level are level.
use Prim.Native.Nat.{ℕ, ◌<◌}
use borrow.Author.Rules.{rules}
use borrow.Author.Tests.{tests}
use Rattle.std.proofs.lemmas.Iterator.{first_from_Range}
use Rattle.check_pairs.specs.Level.{held_in, held_base, LevelAt}
use Rattle.check_pairs.proofs.Uneven.{uneven-found}
use Rattle.check_pairs.proofs.pair.scan.Goals as goal

pub returns : goal.returns
returns c =
    let a = c.args in
    let P : ℕ → ℕ → Type 0 = LevelAt (held_base a.held.bases.now a.held.base.now) (held_in a.held.words.now) a.pairs.now
    in
    uneven-found c.find.result
    (first_from_Range _ _ _ _ (λ j. ((s : ℕ) → s < 16 → P j s) → ⊥) (λ j. (s : ℕ) → s < 16 → P j s) c.find.ensures.ran
    (λ x q k. search (rules, tests))
    (λ x q k. search (rules, tests)))
