-- The parts of gate lines.
use Rattle.std.specs.Prelude.{ℕ, ◌+◌, ◌≤◌, ◌<◌, List, [], ◌∷◌, ◌++◌, length, get_or}
use Rattle.netlist.specs.Text.{space}
use Rattle.netlist.specs.Number.{decimal}
use Rattle.writer.specs.Packed.{Worded}

-- the bytes of the longest line: wires of ten digits, and a name of three letters
abbrev pub longest : ℕ
longest = 41

-- a word and the space after it
abbrev pub parted : List ℕ → List ℕ
parted w = w ++ (space ∷ [])

-- numbers, each with the space after it
abbrev pub spaced : List ℕ → List ℕ
spaced [] = []
spaced (n ∷ ns) = parted (decimal n) ++ spaced ns

-- how many operands, and one result
abbrev pub head_of : ℕ → List ℕ
head_of n = (48 + n) ∷ space ∷ 49 ∷ space ∷ []

-- what a line of the operands os and the result c has before the gate's name
abbrev pub front_of : List ℕ → ℕ → List ℕ
front_of os c = (head_of (length os) ++ spaced os) ++ parted (decimal c)

-- the line, of a name with LF after it
abbrev pub line_of : List ℕ → ℕ → List ℕ → List ℕ
line_of os c name = front_of os c ++ name

-- a table of k entries has words for the wires, and the result's word ends within the line
pub record Packable (k : ℕ) (os : List ℕ) (c : ℕ) : Type 0 where
  pub operands : (i : ℕ) → i < length os → Worded k (get_or os i 0)
  pub result : Worded k c
  pub least : 100 ≤ c
