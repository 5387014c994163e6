-- What a text in the older dialect reads as: questions 2 to 9 (docs/RULES.md, Older dialect).
use Rattle.std.specs.Prelude.{ℕ, Bool, cond, ◌||◌, List, [], map, leb, length, drop}
use Rattle.netlist.specs.declared.Limits.{Limits}
use Rattle.netlist.specs.Lists.{same_bytes}
use Rattle.netlist.specs.Text.{word_lines}
use Rattle.netlist.specs.Netlist.{Netlist}
use Rattle.netlist.specs.Outcome.{Outcome, done, ask, given, and_then}
use Rattle.netlist.specs.Header.{Header, within_limits}
use Rattle.netlist.specs.GateLine.{xor_bytes, and_bytes, inv_bytes, last_word}
use Rattle.netlist.specs.Read.{bytes_allowed, counts_agree, read_gates}
use Rattle.dialect.specs.OldHeader.{old_header}

-- the names of its gates
abbrev pub is_old_name : List ℕ → Bool
is_old_name name = same_bytes name xor_bytes || same_bytes name and_bytes || same_bytes name inv_bytes

-- a gate line with any other name is one without a word to question 7, which has none of the five forms
abbrev pub old_line : List (List ℕ) → List (List ℕ)
old_line ws = cond (is_old_name (last_word ws)) ws []

-- questions 2 to 6
unfoldable pub old_opening : Limits → List ℕ → Outcome Header
old_opening L t =
    ask 2 (leb (length t) L.text)
    (ask 3 (bytes_allowed t)
    (and_then (given 4 (old_header (word_lines t))) λ H.
    ask 5 (within_limits L H)
    (ask 6 (counts_agree H (drop 2 (word_lines t)))
    (done H))))

-- questions 2 to 9
unfoldable pub read_old : Limits → List ℕ → Outcome Netlist
read_old L t = and_then (old_opening L t) (read_gates (map old_line (drop 2 (word_lines t))))
