-- What Join promises of a call (docs/RULES.md, Joining).
use Rattle.std.specs.Prelude.{Ok, Result, ℕ, ◌≡◌, List, [], ◌∷◌, length, take}
use Rattle.netlist.specs.declared.Refusal.{Refusal}
use Rattle.netlist.specs.declared.Sizes.{Sizes}
use Rattle.netlist.specs.Netlist.{masked_limits}
use Rattle.netlist.specs.Outcome.{Outcome}
use Rattle.netlist.specs.Services.{Answers, Cleared}
use Rattle.join.specs.Call.{join_call}
use Rattle.join.specs.Delivered.{Delivered}

-- the lengths of the tables of operands, results, given wires, words and base words
abbrev pub lengths : List ℕ → List ℕ → List ℕ → List ℕ → List ℕ → List ℕ
lengths o r g w b = length o ∷ length r ∷ length g ∷ length w ∷ length b ∷ []

-- the outcome of a call that is handed its sizes, the first text and the second, the first's input codes and output
-- codes, the second's input codes, a result buffer, and those tables
abbrev pub call : Sizes → List ℕ → List ℕ → List ℕ → List ℕ → List ℕ → List ℕ → List ℕ → List ℕ → List ℕ → List ℕ
    → List ℕ → Outcome (List ℕ)
call s first second codes out_codes inner out o r g w b = join_call (masked_limits s) (lengths o r g w b) first codes
    out_codes second inner (length out)

-- the sizes, the texts and the codes, then the result buffer and each table before and after the call
pub record Promise (s : Sizes) (first second codes out_codes inner out out' o o' r r' g g' w w' b b' : List ℕ)
    (a : Result ℕ Refusal) : Type 0 where
  pub answers : Answers (call s first second codes out_codes inner out o r g w b) out out' a
  -- the text written is that of the joined netlist, with all that is said of it
  pub delivered : (n : ℕ) → a ≡ Ok n → Delivered s (lengths o r g w b) first codes out_codes second inner (length out)
      (take n out')
  pub operands : Cleared o o'
  pub results : Cleared r r'
  pub marks : Cleared g g'
  pub words : Cleared w w'
  pub base : Cleared b b'
