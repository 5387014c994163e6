-- What a call of Check with pairs from C gets for its answers.
use Rattle.std.specs.Prelude.{Option, Some, None, Result, Ok, Err, ℕ, cond, ◌&&◌, ◌≡◌, List, [], ◌∷◌, ℤ, pos, neg_ℤ}
use Rattle.std.specs.Prelude.{length}
use Rattle.std.proofs.lemmas.List.Edits.{sets}
use Rattle.netlist.specs.declared.Refusal.{Refusal}
use Rattle.netlist.specs.declared.Refusal.TheVariants as Q
use Rattle.netlist.specs.Refusal.{number_of}
use Rattle.netlist.specs.Services.{holds}
use Rattle.leak_search.specs.declared.difference.Leak.{Leak}
use Rattle.check_pairs.specs.declared.search.PairsFound.{PairsFound}
use Rattle.capi.specs.Number.{leak_numbers}

-- 1 for a leak on a wire, and 2 more for a bad pair
abbrev pub both_by : Option (Leak ℕ) → Option ℕ → ℤ
both_by None None = pos 0
both_by (Some l) None = pos 1
both_by None (Some k) = pos 2
both_by (Some l) (Some k) = pos 3

abbrev pub both : PairsFound ℕ → ℤ
both f = both_by f.leak f.pair

-- the numbers of a leak, if there is one
abbrev pub told_leak : Option (Leak ℕ) → List ℕ
told_leak None = []
told_leak (Some l) = leak_numbers l

-- how many pairs stand before the first bad one
abbrev pub bad_numbers : Option ℕ → List ℕ
bad_numbers None = []
bad_numbers (Some k) = k ∷ []

-- question 14: each list can hold its numbers
abbrev pub room_for : ℕ → ℕ → Result (PairsFound ℕ) Refusal → Result (PairsFound ℕ) Refusal
room_for leak bad (Ok f) = cond (holds leak (told_leak f.leak) && holds bad (bad_numbers f.pair)) (Ok f) (Err Q.Room)
room_for leak bad (Err q) = Err q

-- the number of an answer, and what it writes to the front of each list: nothing where it is a refusal
abbrev pub both_number : Result (PairsFound ℕ) Refusal → ℤ
both_number (Ok f) = both f
both_number (Err q) = neg_ℤ (pos (number_of q))

abbrev pub to_leak : Result (PairsFound ℕ) Refusal → List ℕ
to_leak (Ok f) = told_leak f.leak
to_leak (Err q) = []

abbrev pub to_bad : Result (PairsFound ℕ) Refusal → List ℕ
to_bad (Ok f) = bad_numbers f.pair
to_bad (Err q) = []

-- the number of an answer, and both lists after it
pub record ShowsBoth (leak leak' bad bad' : List ℕ) (r : ℤ) (a : Result (PairsFound ℕ) Refusal) : Type 0 where
  pub told : r ≡ both_number (room_for (length leak) (length bad) a)
  pub leak_list : leak' ≡ sets leak 0 (to_leak (room_for (length leak) (length bad) a))
  pub bad_list : bad' ≡ sets bad 0 (to_bad (room_for (length leak) (length bad) a))

-- what the service promises of its answer, which the caller gets as a number and two lists
pub record ToldBoth (Promise : Result (PairsFound ℕ) Refusal → Type 0) (leak leak' bad bad' : List ℕ) (r : ℤ) : Type 0
  where
    pub answer : Result (PairsFound ℕ) Refusal
    pub promise : Promise answer
    pub shows : ShowsBoth leak leak' bad bad' r answer
