-- A number as text in one word of eight bytes.
use Rattle.std.specs.Prelude.{ℕ, zero, suc, cond, leb, ◌+◌, ◌-◌, ◌*◌, ◌/◌, ◌%◌, ◌^◌, ◌≤◌, ◌<◌, ◌≡◌, List, [], ◌∷◌, ◌++◌}
use Rattle.std.specs.Prelude.{◌⊎◌, length, get_or}
use Rattle.netlist.specs.Text.{space}
use Rattle.netlist.specs.Number.{decimal}

-- bytes as one number, the first the lowest; and k bytes of a number
abbrev pub joined : List ℕ → ℕ
joined [] = 0
joined (b ∷ bs) = b + 256 * joined bs

abbrev pub bytes_of : ℕ → ℕ → List ℕ
bytes_of zero w = []
bytes_of (suc k) w = (w % 256) ∷ bytes_of k (w / 256)

-- a number and the space after it
abbrev pub text : ℕ → List ℕ
text n = decimal n ++ (space ∷ [])

-- the text of n, and in the top byte its length
unfoldable pub packed : ℕ → ℕ
packed n = joined (text n) + length (text n) * 2 ^ 56

-- the last three digits of n
abbrev pub last_three : ℕ → List ℕ
last_three n = (48 + n / 100 % 10) ∷ (48 + n / 10 % 10) ∷ (48 + n % 10) ∷ []

-- what three digits add to a word at the place of its space
unfoldable pub added : ℕ → ℕ
added n = joined (last_three n ++ (space ∷ [])) - space

-- the table's entries below k, of both halves
pub record Filled (d : List ℕ) (k : ℕ) : Type 0 where
  pub long : length d ≡ 2000
  pub words : (i : ℕ) → i < k → get_or d i 0 ≡ packed i
  pub more : (i : ℕ) → i < k → get_or d (1000 + i) 0 ≡ added i

-- a table of all entries is filled; one of at most a thousand has a word in each entry; another is not looked into
pub record WordTable (d : List ℕ) : Type 0 where
  pub filled : length d ≡ 2000 → Filled d 1000
  pub low : length d ≤ 1000 → (i : ℕ) → i < length d → get_or d i 0 ≡ packed i

-- how many entries serve so many wires
abbrev pub entries_for : ℕ → ℕ
entries_for wires = cond (leb wires 100) 0 (cond (leb wires 1000) ((wires + 9) / 10 * 10) 2000)

-- a table of k entries has the word of n
pub record Worded (k n : ℕ) : Type 0 where
  pub six : n < 1000000
  pub entry : n < 1000 → n < k
  pub thousands : 1000 ≤ n → k ≡ 2000
  pub size : (k ≡ 2000) ⊎ (k ≤ 1000)

-- ten neighbouring entries rise by a unit each
pub record Tens (at word unit more : ℕ) : Type 0 where
  pub within : at + 10 ≤ 1000
  pub words : (i : ℕ) → i < 10 → word + unit * i ≡ packed (at + i)
  pub adds : (i : ℕ) → i < 10 → more + 65536 * i ≡ added (at + i)
  pub small : unit < 2 ^ 17
