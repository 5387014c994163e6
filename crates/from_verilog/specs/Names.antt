-- Names of a text in lent tables. Entry i of `words` is the place of a name in the text and, times 2^32, the place
-- after it. Names of one number form a chain: entry k of `heads` is one more than the newest entry of chain k, entry i
-- of `links` one more than the next older one of its chain; 0 is none.
use Rattle.std.specs.Prelude.{ℕ, zero, suc, ◌+◌, ◌*◌, ◌/◌, ◌%◌, ◌≤◌, ◌<◌, ◌≡◌, cond, List, [], ◌∷◌, ◌++◌, eqb, length}
use Rattle.std.specs.Prelude.{get_or, set, Option, Some, None}
use Rattle.netlist.specs.Lists.{same_bytes}
use Rattle.netlist.specs.Table.{half}
use Rattle.from_verilog.specs.Next.{between}

-- the number of a name, after the number of what stands before
abbrev pub number_from : ℕ → List ℕ → ℕ
number_from h [] = h
number_from h (b ∷ w) = number_from ((h * 37 + b) % half) w

unfoldable pub number : List ℕ → ℕ
number w = number_from 0 w

-- the i-th name
abbrev pub name_at : List ℕ → List ℕ → ℕ → List ℕ
name_at t words i = between t (get_or words i 0 % half) (get_or words i 0 / half)

-- the first n names in order
abbrev pub names_of : List ℕ → List ℕ → ℕ → List (List ℕ)
names_of t words zero = []
names_of t words (suc n) = names_of t words n ++ (name_at t words n ∷ [])

module _ (t words : List ℕ) (size : ℕ) where
  -- the chain of an entry
  abbrev pub chain_at : ℕ → ℕ
  chain_at i = number (name_at t words i) % size

  -- one more than the newest of the first n entries that are in chain k, 0 where none is
  unfoldable pub newest : ℕ → ℕ → ℕ
  newest k zero = 0
  newest k (suc n) = cond (eqb (chain_at n) k) (suc n) (newest k n)

-- one more than the newest of the first n entries that has a name, 0 where none has
unfoldable pub found : List ℕ → List ℕ → List ℕ → ℕ → ℕ
found t words w zero = 0
found t words w (suc n) = cond (same_bytes (name_at t words n) w) (suc n) (found t words w n)

-- one more than an entry, 0 for none
abbrev pub entry_number : Option ℕ → ℕ
entry_number None = 0
entry_number (Some i) = suc i

-- the tables hold n names of the text
pub record Chained (t heads words links : List ℕ) (size n : ℕ) : Type 0 where
  pub headed : (k : ℕ) → k < size → get_or heads k 0 ≡ newest t words size k n
  pub older : (i : ℕ) → i < n → get_or links i 0 ≡ newest t words size (chain_at t words size i) i
  pub places : (i : ℕ) → i < n → (get_or words i 0 % half ≤ get_or words i 0 / half)
      × (get_or words i 0 / half ≤ length t)
  pub some : 0 < size
  pub sized : size ≤ length heads
  pub worded : n ≤ length words
  pub linked : n ≤ length links
  pub short : length t < half

-- the entry of a name between two places
abbrev pub entry_of : ℕ → ℕ → ℕ
entry_of from to = from + to * half

abbrev pub chain_of : ℕ → List ℕ → ℕ
chain_of size w = number w % size

-- one name more, between two places
pub record Added (t heads heads' words words' links links' : List ℕ) (size n from to : ℕ) : Type 0 where
  pub headed : heads' ≡ set heads (chain_of size (between t from to)) (n + 1)
  pub worded : words' ≡ set words n (entry_of from to)
  pub linked : links' ≡ set links n (get_or heads (chain_of size (between t from to)) 0)
