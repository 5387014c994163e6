-- What is said of line ends (docs/RULES.md, Text and line ends).
use Rattle.std.specs.Prelude.{ℕ, ◌≤◌, false, List, map, ◌≡◌, T, eqb, length}
use Rattle.netlist.specs.declared.Limits.{Limits}
use Rattle.netlist.specs.Lists.{All}
use Rattle.netlist.specs.Text.{cr, lf_ends, is_line_end, split, filled, space_words, word_lines}
use Rattle.netlist.specs.Read.{bytes_allowed, opening, read_netlist}
use Rattle.netlist.specs.GateReader.{reader_says}
use Rattle.netlist.specs.Services.{rewrite_call, run_call}
use Rattle.masking.specs.Calls.{mask_call, check_call}

-- every CR of a text stands directly before an LF
abbrev pub CarriageReturnsAtEnds : List ℕ → Type 0
CarriageReturnsAtEnds t = All (λ x. eqb x cr ≡ false) (lf_ends t)

-- a text with each CR LF made LF reads as the text does, and so does every service
pub record ReadAlike (L : Limits) (t : List ℕ) : Type 0 where
  pub opened : opening L (lf_ends t) ≡ opening L t
  pub netlist : read_netlist L (lf_ends t) ≡ read_netlist L t
  pub rewritten : (tables : List ℕ) (room : ℕ) → rewrite_call L tables (lf_ends t) room ≡ rewrite_call L tables t room
  pub run : (tables list : List ℕ) (room : ℕ) → run_call L tables (lf_ends t) list room ≡ run_call L tables t list room
  pub masked : (tables codes wanted : List ℕ) (text_room code_room : ℕ)
      → mask_call L tables (lf_ends t) codes wanted text_room code_room
      ≡ mask_call L tables t codes wanted text_room code_room
  pub checked : (tables codes : List ℕ) → check_call L tables (lf_ends t) codes ≡ check_call L tables t codes
  pub gate : (k : ℕ) → reader_says L (lf_ends t) k ≡ reader_says L t k

abbrev pub LineEndsAlike : Type 0
LineEndsAlike = (L : Limits) (t : List ℕ) → length t ≤ L.text → CarriageReturnsAtEnds t → ReadAlike L t

-- the lines of a text that question 3 admits, each as its words: parted by LF and by spaces alone, once each CR LF is
-- made LF
abbrev pub LinesLiteral : Type 0
LinesLiteral = (t : List ℕ) → T (bytes_allowed t) → word_lines t
    ≡ filled (map space_words (split is_line_end (lf_ends t)))
