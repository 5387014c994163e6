-- What a call of the check of netlists with many inputs from C gets for its answers.
use Rattle.std.specs.Prelude.{Option, Some, None, Result, Ok, Err, ℕ, cond, ◌≡◌, List, [], leb, ℤ, length}
use Rattle.std.proofs.lemmas.List.Edits.{sets}
use Rattle.netlist.specs.declared.Refusal.{Refusal}
use Rattle.netlist.specs.declared.Refusal.TheVariants as Q
use Rattle.check_pairs.specs.declared.search.PairsFound.{PairsFound}
use Rattle.check_wide.specs.Told.{WideLeak, WideFound, told}
use Rattle.capi.specs.Pairs.{room_for, both_number, to_leak, to_bad}

-- question 14: the list for the ones can hold them; their number stands in place of a leak's setting
abbrev pub ones_by : ℕ → Option WideLeak → Option ℕ → Result (PairsFound ℕ) Refusal
ones_by room None p = Ok (record { leak = None; pair = p })
ones_by room (Some l) p =
    cond (leb l.setting.count room)
    (Ok (record {
      leak = Some (record { wire = l.wire; setting = l.setting.count; base = l.base; own = l.own });
      pair
          = p;
    }))
    (Err Q.Room)

abbrev pub room_ones : ℕ → Result WideFound Refusal → Result (PairsFound ℕ) Refusal
room_ones room (Ok f) = ones_by room f.leak f.pair
room_ones room (Err q) = Err q

-- the input bits that are one in a leak's setting, if there is one
abbrev pub told_ones : Option WideLeak → List ℕ
told_ones None = []
told_ones (Some l) = (told l).ones

-- what an answer writes to the list for the ones: nothing where it is told as a refusal
abbrev pub to_ones : Result (PairsFound ℕ) Refusal → Result WideFound Refusal → List ℕ
to_ones (Ok f) (Ok w) = told_ones w.leak
to_ones (Ok f) (Err q) = []
to_ones (Err q) a = []

-- question 14 of all three lists
abbrev pub room_wide : List ℕ → List ℕ → List ℕ → Result WideFound Refusal → Result (PairsFound ℕ) Refusal
room_wide leak ones bad a = room_for (length leak) (length bad) (room_ones (length ones) a)

-- the number of an answer, and the lists after it
pub record ShowsWide (leak leak' ones ones' bad bad' : List ℕ) (r : ℤ) (a : Result WideFound Refusal) : Type 0 where
  pub told : r ≡ both_number (room_wide leak ones bad a)
  pub leak_list : leak' ≡ sets leak 0 (to_leak (room_wide leak ones bad a))
  pub ones_list : ones' ≡ sets ones 0 (to_ones (room_wide leak ones bad a) a)
  pub bad_list : bad' ≡ sets bad 0 (to_bad (room_wide leak ones bad a))

-- what the service promises of its answer, which the caller gets as a number and three lists
pub record ToldWide (Promise : Result WideFound Refusal → Type 0) (leak leak' ones ones' bad bad' : List ℕ) (r : ℤ) :
    Type 0 where
  pub answer : Result WideFound Refusal
  pub promise : Promise answer
  pub shows : ShowsWide leak leak' ones ones' bad bad' r answer
