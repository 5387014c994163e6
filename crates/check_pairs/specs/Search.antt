-- What the search of wires and pairs answers.
use Rattle.std.specs.Prelude.{ℕ, List, Option, Some, None}
use Rattle.std.proofs.Math.Option.{none, some}
use Rattle.std.proofs.Math.Option as Math
use Rattle.leak_search.specs.Difference.{LowestDifference}
use Rattle.check_pairs.specs.declared.search.PairsFound.{PairsFound}
use Rattle.check_pairs.specs.Level.{Counts, LevelAt, FirstUneven}

-- the answer on a list of pairs that a number stands for
abbrev pub bad_of : Option ℕ → Math.Option ℕ
bad_of None = none
bad_of (Some k) = some k

-- the lowest leak on wires below W and the first bad one of n pairs, over the settings below S
pub record Found (base counts : Counts) (ws : List ℕ) (W n S : ℕ) (b : PairsFound ℕ) : Type 0 where
  pub lowest : LowestDifference base.one counts.one W S b.leak
  pub uneven : FirstUneven (LevelAt base counts ws) n S b.pair
