-- The form of a file: its opening, its header and its lines (docs/RULES.md, AIGER). Lines are taken one after another,
-- and what stands after the last AND line is not looked at.
use Rattle.std.specs.Prelude.{ℕ, zero, suc, ◌+◌, Bool, ◌&&◌, List, [], ◌∷◌, map, leb, ltb, take, drop}
use Rattle.std.proofs.Math.Option.{Option, none, some}
use Rattle.netlist.specs.declared.Limits.{Limits}
use Rattle.netlist.specs.Lists.{ascii, same_bytes}
use Rattle.netlist.specs.Text.{lf_ends, is_line_end, split, filled, space_words}
use Rattle.netlist.specs.Header.{numbers}
use Rattle.text.specs.Line.{first_line, after_line}
use Rattle.aiger.specs.File.{Literal, constant, plain, inverse, literal, AndLine, line_of, File}

-- a value where there is one
abbrev pub if_some : {A B : Type 0} → Option A → (A → Option B) → Option B
if_some none f = none
if_some (some a) f = f a

-- ---- lines and words as in docs/RULES.md, Text and line ends, of a text that was not asked question 3: lines end in
-- LF or CR LF, and words are parted by spaces alone, so that any other byte, a CR elsewhere too, is part of a word

-- the words of the first line
unfoldable pub file_line : List ℕ → List (List ℕ)
file_line t = space_words (first_line (lf_ends t))

-- the lines that are not blank
unfoldable pub file_lines : List ℕ → List (List (List ℕ))
file_lines t = filled (map space_words (split is_line_end (lf_ends t)))

-- ---- the opening and the header

-- the first four bytes
abbrev pub opens : List ℕ → Bool
opens t = same_bytes (take 4 t) (ascii "aag ")

-- M I L O A
pub record Head : Type 0 where
  pub most : ℕ
  pub inputs : ℕ
  pub latches : ℕ
  pub outputs : ℕ
  pub ands : ℕ

-- the five numbers of the header
abbrev pub head_of : Option (List ℕ) → Option Head
head_of none = none
head_of (some []) = none
head_of (some (m ∷ [])) = none
head_of (some (m ∷ (i ∷ []))) = none
head_of (some (m ∷ (i ∷ (l ∷ [])))) = none
head_of (some (m ∷ (i ∷ (l ∷ (o ∷ []))))) = none
head_of (some (m ∷ (i ∷ (l ∷ (o ∷ (a ∷ []))))))
    = some (record { most = m; inputs = i; latches = l; outputs = o; ands = a })
head_of (some (m ∷ (i ∷ (l ∷ (o ∷ (a ∷ (x ∷ xs))))))) = none

-- the header: the first line, after the four bytes
abbrev pub head_line : List ℕ → List (List ℕ)
head_line t = file_line (drop 4 t)

abbrev pub head : List ℕ → Option Head
head t = head_of (numbers (head_line t))

-- the lines after the header
abbrev pub lines_after : List ℕ → List (List (List ℕ))
lines_after t = file_lines (after_line (drop 4 t))

-- one input and one output or more, M below the limit on W
abbrev pub head_good : Limits → Head → Bool
head_good L H = leb 1 H.inputs && leb 1 H.outputs && ltb H.most L.wires

-- ---- the lines after it

-- a line of one literal
abbrev pub one_literal : Option (List ℕ) → Option Literal
one_literal none = none
one_literal (some []) = none
one_literal (some (x ∷ [])) = some (literal x)
one_literal (some (x ∷ (y ∷ ys))) = none

-- the variable that an input line or a left side gives: an even literal above 1
abbrev pub variable : Literal → Option ℕ
variable (constant b) = none
variable (plain v) = some v
variable (inverse v) = none

-- an AND line: a left side and two literals
abbrev pub and_line : Option (List ℕ) → Option AndLine
and_line none = none
and_line (some []) = none
and_line (some (x ∷ [])) = none
and_line (some (x ∷ (y ∷ []))) = none
and_line (some (x ∷ (y ∷ (z ∷ [])))) = if_some (variable (literal x)) λ v. some (line_of v y z)
and_line (some (x ∷ (y ∷ (z ∷ (w ∷ ws))))) = none

-- the first k lines, each of a form; none if there are fewer
abbrev pub formed : {A : Type 0} → (List (List ℕ) → Option A) → ℕ → List (List (List ℕ)) → Option (List A)
formed f zero ls = some []
formed f (suc k) [] = none
formed f (suc k) (l ∷ ls) = if_some (f l) λ a. if_some (formed f k ls) λ rest. some (a ∷ rest)

-- an input line
abbrev pub input_line : List (List ℕ) → Option ℕ
input_line l = if_some (one_literal (numbers l)) variable

-- an output line
abbrev pub output_line : List (List ℕ) → Option Literal
output_line l = one_literal (numbers l)

-- the left side and the operands of a line
abbrev pub and_form : List (List ℕ) → Option AndLine
and_form l = and_line (numbers l)

-- the file of a header and the lines after it
abbrev pub file : Head → List (List (List ℕ)) → Option File
file H ls =
    if_some (formed input_line H.inputs ls) λ ins.
    if_some (formed output_line H.outputs (drop H.inputs ls)) λ outs.
    if_some (formed and_form H.ands (drop (H.inputs + H.outputs) ls)) λ gates.
    some (record { most = H.most; inputs = ins; outputs = outs; ands = gates })
