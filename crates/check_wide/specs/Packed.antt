-- Sets of inputs in four tables: entry w of each belongs to wire w.
use Rattle.std.specs.Prelude.{ℕ, ◌+◌, ◌/◌, ◌%◌, ◌≤◌, ◌<◌, cond, ◌&&◌, List, [], ◌∷◌, ◌≢◌, ◌≡◌, ltb, length, get_or}
use Rattle.std.specs.Prelude.{take}
use Rattle.check_wide.specs.Sets.{members_end}

-- 2^20, 2^40 and 2^60
abbrev pub second : ℕ
second = members_end

abbrev pub third : ℕ
third = 1099511627776

abbrev pub above : ℕ
above = 1152921504606846976

-- the three numbers of an entry, before others
abbrev pub three_of : ℕ → List ℕ → List ℕ
three_of e is = (e % second) ∷ (e / second % second) ∷ (e / third % second) ∷ is

-- how many members a set has, by its first entry
abbrev pub count_in : ℕ → ℕ
count_in a = a / above

-- its members
abbrev pub list_in : ℕ → ℕ → ℕ → ℕ → List ℕ
list_in a b c d = take (count_in a) (three_of a (three_of b (three_of c (three_of d []))))

pub record Sets : Type 0 where
  pub set0 : List ℕ
  pub set1 : List ℕ
  pub set2 : List ℕ
  pub set3 : List ℕ

abbrev pub sets : List ℕ → List ℕ → List ℕ → List ℕ → Sets
sets a b c d = record { set0 = a; set1 = b; set2 = c; set3 = d }

-- the set of wire w, and how many members it has
abbrev pub set_at : Sets → ℕ → List ℕ
set_at S w = list_in (get_or S.set0 w 0) (get_or S.set1 w 0) (get_or S.set2 w 0) (get_or S.set3 w 0)

abbrev pub size_at : Sets → ℕ → ℕ
size_at S w = count_in (get_or S.set0 w 0)

-- the tables have W entries each, and the sets at most twelve members
pub record Sized (S : Sets) (W : ℕ) : Type 0 where
  pub long0 : length S.set0 ≡ W
  pub long1 : length S.set1 ≡ W
  pub long2 : length S.set2 ≡ W
  pub long3 : length S.set3 ≡ W
  pub few : (w : ℕ) → size_at S w ≤ 12

-- of n inputs and W wires, those that reach wire w before the first gate line
abbrev pub start_set : ℕ → ℕ → ℕ → List ℕ
start_set n W w = cond (ltb w n && ltb w W) (w ∷ []) []

abbrev pub start_entry : ℕ → ℕ → ℕ
start_entry n w = cond (ltb w n) (w + above) 0

-- members fit in twenty bits
abbrev pub Small : List ℕ → Type 0
Small is = (a : ℕ) → get_or is a 0 < members_end

-- an entry holds three numbers, and a count above them
pub record Holding (x y z k e : ℕ) : Type 0 where
  pub first : e % second ≡ x
  pub next : e / second % second ≡ y
  pub last : e / third % second ≡ z
  pub count : e / above ≡ k

-- the set of wire c was replaced by a list, and the other wires' sets are as they were
pub record Put (S S' : Sets) (c : ℕ) (is : List ℕ) : Type 0 where
  pub here : set_at S' c ≡ is
  pub others : (w : ℕ) → w ≢ c → set_at S' w ≡ set_at S w
  pub sized : (W : ℕ) → Sized S W → Sized S' W
