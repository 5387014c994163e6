-- `leak::nibble::counts` meets its contract.
use mathlib.Core.Path.{ap, ◌∙◌}
use Prim.Native.Nat.{ℕ}
use borrow.Author.Rules.{rules}
use Rattle.leak_search.specs.Block.{nibble}
use Rattle.leak_search.proofs.Folds.{fold, pairs-law, counts-law}
use Rattle.leak_search.proofs.nibble.counts.Goals as goal

pub returns : goal.returns
returns c s l = ap (λ (pairs : ℕ). nibble (fold 2 16 pairs) s) (pairs-law c.args.word (search rules))
    ∙ counts-law c.args.word s l
