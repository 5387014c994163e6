-- What the search answers.
use Rattle.std.specs.Prelude.{Option, Some, None, ℕ, ◌≤◌, ◌<◌, List, ◌≡◌, length, get_or, take}
use Rattle.std.proofs.Math.Option.{none, some}
use Rattle.std.proofs.Math.Option as Math
use Rattle.leak_search.specs.declared.difference.Leak.{Leak}
use Rattle.check_pairs.specs.declared.search.PairsFound.{PairsFound}
use Rattle.check_wide.specs.Wide as Wide
use Rattle.check_wide.specs.declared.members.Ones.{Ones}

-- a leak, whose setting is told by the input bits that are one in it, and what was found with such a leak
abbrev pub WideLeak : Type 0
WideLeak = Leak Ones

abbrev pub WideFound : Type 0
WideFound = PairsFound Ones

-- what a leak says
abbrev pub told : WideLeak → Wide.WideLeak
told p = record { wire = p.wire; ones = take p.setting.count p.setting.items; base = p.base; own = p.own }

-- the answer that it stands for
abbrev pub told_of : Option WideLeak → Math.Option Wide.WideLeak
told_of None = none
told_of (Some p) = some (told p)

-- a rising list
abbrev pub Rising : List ℕ → Type 0
Rising is = (a b : ℕ) → a < b → b < length is → get_or is a 0 < get_or is b 0

-- the input bits that are one in a leak's setting: as many as are told, one to twelve, and rising
pub record OnesTold (p : WideLeak) : Type 0 where
  pub count : p.setting.count ≡ length (told p).ones
  pub some : 1 ≤ p.setting.count
  pub few : p.setting.count ≤ 12
  pub rising : Rising (told p).ones
