-- What the explanation of a netlist's wires promises of a call.
use Rattle.std.specs.Prelude.{Ok, Result, ℕ, ◌-◌, ◌≡◌, List, [], ◌∷◌, leb, length, take}
use Rattle.netlist.specs.declared.Limits.{Limits}
use Rattle.netlist.specs.declared.Refusal.{Refusal}
use Rattle.netlist.specs.declared.Sizes.{Sizes}
use Rattle.netlist.specs.Netlist.{Netlist, input_bits, masked_limits}
use Rattle.netlist.specs.Outcome.{Outcome, done, ask, and_then}
use Rattle.netlist.specs.Read.{read_netlist}
use Rattle.netlist.specs.Services.{tables_long, list_good, delivered, Answers, Cleared}
use Rattle.masking.specs.Mask.{is_input_code}
use Rattle.masking.specs.Calls.{ends_in_masks, max_checked}
use Rattle.causes.specs.Causes.{verdicts}
use Rattle.causes.specs.Judged.{WiresJudged}

-- questions 10 to 12 of a netlist, and what follows
abbrev pub explained : Outcome (List ℕ) → List ℕ → Netlist → Outcome (List ℕ)
explained rest codes N =
    ask 10 (ends_in_masks N.inputs)
    (ask 11 (list_good is_input_code (input_bits N - 2) codes)
    (ask 12 (leb (length codes) max_checked) rest))

-- questions 10 to 12 and 14
abbrev pub wires_outcome : List ℕ → ℕ → Netlist → Outcome (List ℕ)
wires_outcome codes room N = explained (delivered room (verdicts N codes)) codes N

-- questions 1 to 12 and 14
unfoldable pub wires_call : Limits → List ℕ → List ℕ → List ℕ → ℕ → Outcome (List ℕ)
wires_call L tables text codes room = ask 1 (tables_long L tables)
    (and_then (read_netlist L text) (wires_outcome codes room))

-- the outcome of a call that is handed its sizes, a text, input codes, a result buffer, and tables of operands,
-- results, given wires, words and base words
abbrev pub call : Sizes → List ℕ → List ℕ → List ℕ → List ℕ → List ℕ → List ℕ → List ℕ → List ℕ → Outcome (List ℕ)
call s text codes out o r g w b = wires_call (masked_limits s)
    (length o ∷ length r ∷ length g ∷ length w ∷ length b ∷ []) text codes (length out)

-- the sizes, the text and the input codes, then the result buffer and each table before and after the call
pub record Promise (s : Sizes) (text codes out out' o o' r r' g g' w w' b b' : List ℕ) (a : Result ℕ Refusal) : Type 0
  where
    pub answers : Answers (call s text codes out o r g w b) out out' a
    -- the verdicts are on the netlist that the text reads as
    pub judged : (n : ℕ) (N : Netlist) → a ≡ Ok n → read_netlist (masked_limits s) text ≡ done N
        → WiresJudged N codes (take n out')
    pub operands : Cleared o o'
    pub results : Cleared r r'
    pub marks : Cleared g g'
    pub words : Cleared w w'
    pub base : Cleared b b'
