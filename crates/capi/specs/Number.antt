-- The number that a call from C gets for an answer.
use Rattle.std.specs.Prelude.{Option, Some, None, Result, Ok, Err, ℕ, ◌^◌, ◌<◌, ◌≡◌, List, [], ◌∷◌, ℤ, pos, neg_ℤ, cond}
use Rattle.std.specs.Prelude.{eqb, leb, length}
use Rattle.std.proofs.lemmas.List.Edits.{sets}
use Rattle.netlist.specs.declared.Sizes.{Sizes}
use Rattle.netlist.specs.declared.Sizes.TheVariants.{Standard, Whole}
use Rattle.netlist.specs.declared.Refusal.{Refusal}
use Rattle.netlist.specs.declared.Refusal.TheVariants as Q
use Rattle.netlist.specs.Refusal.{number_of}
use Rattle.leak_search.specs.declared.difference.Leak.{Leak}

-- the sizes that a call's last number chooses
abbrev pub sizes_of : ℕ → Sizes
sizes_of whole = cond (eqb whole 0) Standard Whole

-- how many entries the result has, or minus the number of the question
abbrev pub number : Result ℕ Refusal → ℤ
number (Ok n) = pos n
number (Err q) = neg_ℤ (pos (number_of q))

-- the number of a result fits an i64
abbrev pub Countable : Result ℕ Refusal → Type 0
Countable (Ok n) = n < 2 ^ 63
Countable (Err q) = Unit

-- what a call promises of its answer, which the caller gets as a number
pub record Told (Promise : Result ℕ Refusal → Type 0) (r : ℤ) : Type 0 where
  pub answer : Result ℕ Refusal
  pub promise : Promise answer
  pub told : r ≡ number answer

-- the wire of a leak, its setting, its base's count and its own
abbrev pub leak_numbers : Leak ℕ → List ℕ
leak_numbers l = l.wire ∷ l.setting ∷ l.base ∷ l.own ∷ []

-- 0 for clean, 1 for a leak, or minus the number of the question
abbrev pub verdict : Result (Option (Leak ℕ)) Refusal → ℤ
verdict (Ok None) = pos 0
verdict (Ok (Some l)) = pos 1
verdict (Err q) = neg_ℤ (pos (number_of q))

-- the numbers of the leak, where there is one to tell
abbrev pub numbers : Result (Option (Leak ℕ)) Refusal → List ℕ
numbers (Ok None) = []
numbers (Ok (Some l)) = leak_numbers l
numbers (Err q) = []

-- question 14: can a list of n entries hold the numbers, where there is a leak to tell?
abbrev pub listed : ℕ → Result (Option (Leak ℕ)) Refusal → Result (Option (Leak ℕ)) Refusal
listed n (Ok None) = Ok None
listed n (Ok (Some l)) = cond (leb 4 n) (Ok (Some l)) (Err Q.Room)
listed n (Err q) = Err q

-- an answer's number, and its leak's numbers at the front of a list that was `before`, which stays untouched otherwise
pub record Shows (before after : List ℕ) (r : ℤ) (a : Result (Option (Leak ℕ)) Refusal) : Type 0 where
  pub told : r ≡ verdict (listed (length before) a)
  pub leak : after ≡ sets before 0 (numbers (listed (length before) a))

-- what Check promises of its answer, which the caller gets as a number and a list
pub record ToldLeak (Promise : Result (Option (Leak ℕ)) Refusal → Type 0) (before after : List ℕ) (r : ℤ) : Type 0 where
  pub answer : Result (Option (Leak ℕ)) Refusal
  pub promise : Promise answer
  pub shows : Shows before after r answer
