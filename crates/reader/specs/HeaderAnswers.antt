-- What the answers of the header's readers mean.
use Rattle.std.specs.Prelude.{ℕ, Option, Some, None, ◌<◌, ◌≡◌, cond, List, [], ◌∷◌, leb, length, get_or}
use Rattle.std.proofs.Math.Option as maybe
use Rattle.std.proofs.Math.Option.{none, some}
use Rattle.netlist.specs.Lists.{every, sum}
use Rattle.netlist.specs.Text.{word_lines}
use Rattle.netlist.specs.Header.{Header, numbers}
use Rattle.text.specs.Line.{line_words, next_lines_of}
use Rattle.text.specs.Cursors.{left, LineTaken}
use Rattle.dialect.specs.declared.Dialect.{Dialect}
use Rattle.dialect.specs.declared.Dialect.TheVariants.{Fashion}
use Rattle.dialect.specs.declared.Parties.{Parties}
use Rattle.dialect.specs.OldHeader.{parties}
use Rattle.dialect.specs.Dialects.{header_in, header_lines}
use Rattle.text.specs.declared.cursor.Cursor.{Cursor}
use Rattle.reader.specs.declared.header_lines.HeaderNumbers.{HeaderNumbers}

-- ---- line one

-- two numbers alone
abbrev pub pair_only : maybe.Option (List ℕ) → maybe.Option (List ℕ)
pair_only none = none
pair_only (some []) = none
pair_only (some (g ∷ [])) = none
pair_only (some (g ∷ (w ∷ []))) = some (g ∷ w ∷ [])
pair_only (some (g ∷ (w ∷ (x ∷ xs)))) = none

-- the first line from c holds the numbers g and w
pub record CountsAt (c : Cursor) (g w : ℕ) (d : Cursor) : Type 0 where
  pub line : pair_only (numbers (line_words (left c))) ≡ some (g ∷ w ∷ [])
  pub next : LineTaken c d

abbrev pub CountsIs : Cursor → Option (ℕ × ℕ × Cursor) → Type 0
CountsIs c (Some (g, w, d)) = CountsAt c g w d
CountsIs c None = pair_only (numbers (line_words (left c))) ≡ none

-- ---- lines two and three

-- numbers that are each 1 or more
abbrev pub positives : maybe.Option (List ℕ) → maybe.Option (List ℕ)
positives none = none
positives (some ws) = cond (every (leb 1) ws) (some ws) none

-- the table holds the first of the widths, as many as it has room for
abbrev pub Kept : List ℕ → List ℕ → Type 0
Kept table ws = (i : ℕ) → i < length table → i < length ws → get_or table i 0 ≡ get_or ws i 0

-- the first line from c holds the widths that are expected of it
pub record WidthsAt (c : Cursor) (expected : maybe.Option (List ℕ)) (table : List ℕ) (count total : ℕ) (d : Cursor) :
    Type 0 where
  pub ws : List ℕ
  pub line : expected ≡ some ws
  pub size : length ws ≡ count
  pub all : sum ws ≡ total
  pub kept : Kept table ws
  pub next : LineTaken c d

abbrev pub WidthsIs : Cursor → maybe.Option (List ℕ) → List ℕ → Option (ℕ × ℕ × Cursor) → Type 0
WidthsIs c expected table (Some (n, s, d)) = WidthsAt c expected table n s d
WidthsIs c expected table None = expected ≡ none

-- ---- line two of the older dialect

-- the first line from c holds the bits of the parties and of the output
pub record PartiesAt (c : Cursor) (p : Parties) (d : Cursor) : Type 0 where
  pub line : parties (numbers (line_words (left c))) ≡ some p
  pub next : LineTaken c d

abbrev pub PartiesIs : Cursor → Option (Parties × Cursor) → Type 0
PartiesIs c (Some (p, d)) = PartiesAt c p d
PartiesIs c None = parties (numbers (line_words (left c))) ≡ none

-- ---- the header

-- the header of t in a dialect, its numbers, and its widths in the two tables; c stands after its last line
pub record HeaderOf (d : Dialect) (t ins outs : List ℕ) (h : HeaderNumbers) (c : Cursor) : Type 0 where
  pub is : Header
  pub read : header_in d (word_lines t) ≡ some is
  pub gates : is.count ≡ h.gates
  pub wires : is.wires ≡ h.wires
  pub inputs : length is.inputs ≡ h.input_values
  pub input_bits : sum is.inputs ≡ h.input_bits
  pub outputs : length is.outputs ≡ h.output_values
  pub output_bits : sum is.outputs ≡ h.output_bits
  pub kept_in : Kept ins is.inputs
  pub kept_out : Kept outs is.outputs
  pub place : left c ≡ next_lines_of (header_lines d) t
  pub same : c.text.now ≡ t

abbrev pub HeaderSays : Dialect → List ℕ → List ℕ → List ℕ → Option (HeaderNumbers × Cursor) → Type 0
HeaderSays d t ins outs (Some (h, c)) = HeaderOf d t ins outs h c
HeaderSays d t ins outs None = header_in d (word_lines t) ≡ none

-- the header of Bristol Fashion
abbrev pub HeaderAt : List ℕ → List ℕ → List ℕ → HeaderNumbers → Cursor → Type 0
HeaderAt t ins outs h c = HeaderOf Fashion t ins outs h c

abbrev pub HeaderIs : List ℕ → List ℕ → List ℕ → Option (HeaderNumbers × Cursor) → Type 0
HeaderIs t ins outs r = HeaderSays Fashion t ins outs r
