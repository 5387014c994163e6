-- What sixty-four runs promise of a call (docs/RULES.md, Running).
use Rattle.std.specs.Prelude.{Ok, Result, ℕ, ◌<◌, ◌≡◌, List, [], ◌∷◌, map, eqb, length, take}
use Rattle.netlist.specs.declared.Limits.{Limits}
use Rattle.netlist.specs.declared.Refusal.{Refusal}
use Rattle.netlist.specs.declared.Sizes.{Sizes}
use Rattle.netlist.specs.Netlist.{Netlist, input_bits, masked_limits}
use Rattle.netlist.specs.Outcome.{Outcome, done, ask, and_then}
use Rattle.netlist.specs.Read.{read_netlist}
use Rattle.netlist.specs.Eval.{bit}
use Rattle.netlist.specs.Services.{tables_long, delivered, output_list, Answers, Cleared}
use Rattle.evaluate.specs.Lane.{lanes, output_words}

-- questions 11, of the list's length alone, and 14 of a netlist
abbrev pub run64_outcome : List ℕ → ℕ → Netlist → Outcome (List ℕ)
run64_outcome list room N = ask 11 (eqb (length list) (input_bits N)) (delivered room (output_words N list))

-- questions 1 to 9, 11 and 14
unfoldable pub run64_call : Limits → List ℕ → List ℕ → List ℕ → ℕ → Outcome (List ℕ)
run64_call L tables text list room = ask 1 (tables_long L tables)
    (and_then (read_netlist L text) (run64_outcome list room))

-- the outcome of a call that is handed its sizes, a text, a word for each input bit, a result buffer, and tables of
-- operands, results, given wires and words
abbrev pub call : Sizes → List ℕ → List ℕ → List ℕ → List ℕ → List ℕ → List ℕ → List ℕ → Outcome (List ℕ)
call s text list out o r g w = run64_call (masked_limits s) (length o ∷ length r ∷ length g ∷ length w ∷ []) text list
    (length out)

-- the bits of setting j, as Run's lists have them: 0 or 1 each
abbrev pub bits_of : ℕ → List ℕ → List ℕ
bits_of j words = map bit (lanes j words)

-- the sizes, the text and the list, then the result buffer and each table before and after the call
pub record Promise (s : Sizes) (text list out out' o o' r r' g g' w w' : List ℕ) (a : Result ℕ Refusal) : Type 0 where
  pub answers : Answers (call s text list out o r g w) out out' a
  -- bit j of the output words is what Run gives on bit j of the input words
  pub lane : (n : ℕ) (N : Netlist) → a ≡ Ok n → read_netlist (masked_limits s) text ≡ done N → (j : ℕ) → j < 64
      → bits_of j (take n out') ≡ output_list N (bits_of j list)
  pub operands : Cleared o o'
  pub results : Cleared r r'
  pub marks : Cleared g g'
  pub words : Cleared w w'
