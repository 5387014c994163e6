-- What the certifier promises of a call.
use Rattle.std.specs.Prelude.{ℕ, Result, Ok, ◌/◌, ◌≡◌, List, [], ◌∷◌, length}
use Rattle.netlist.specs.declared.Refusal.{Refusal}
use Rattle.netlist.specs.declared.Limits.{Limits}
use Rattle.netlist.specs.declared.Sizes.{Sizes}
use Rattle.netlist.specs.Netlist.{Netlist, masked_limits}
use Rattle.netlist.specs.Outcome.{Outcome, refused, done, ask, and_then}
use Rattle.netlist.specs.Read.{read_netlist}
use Rattle.netlist.specs.Services.{tables_long, Cleared}
use Rattle.questions.specs.Asked.{codes_asked}
use Rattle.certify.specs.declared.judge.Verdict.{Verdict}
use Rattle.certify.specs.declared.judge.Verdict.TheVariants.{Clean}
use Rattle.certify.specs.Pass.{Masking}
use Rattle.certify.specs.Judge.{answered, Judged}

-- questions 10 and 11 of a netlist
abbrev pub codes_for : List ℕ → Netlist → Outcome Netlist
codes_for codes N = and_then (codes_asked N.inputs codes) (λ u. done N)

-- questions 1 to 11: the first that gets a no, or the netlist that was read; records has fifteen entries a wire
unfoldable pub certify_call : Limits → List ℕ → List ℕ → List ℕ → Outcome Netlist
certify_call L tables text codes = ask 1 (tables_long L tables) (and_then (read_netlist L text) (codes_for codes))

-- the questions to a call that is handed its sizes, a text, input codes, and tables of operands, results, marks, words,
-- base words and records
abbrev pub call : Sizes → List ℕ → List ℕ → List ℕ → List ℕ → List ℕ → List ℕ → List ℕ → List ℕ → Outcome Netlist
call s text codes o r g w b t = certify_call (masked_limits s)
    (length o ∷ length r ∷ length g ∷ length w ∷ length b ∷ length t / 15 ∷ []) text codes

-- the answer, with both lists before and after the call
pub record Answers (asked : Outcome Netlist) (codes leak leak' ones ones' : List ℕ) (a : Result Verdict Refusal) : Type
    0 where
  -- the first question with a no, and both lists as they were
  pub refused : (q : ℕ) → asked ≡ refused q → (answered a ≡ refused q) × (leak' ≡ leak) × (ones' ≡ ones)
  -- or what the answer says of the netlist that was read
  pub judged : (N : Netlist) → asked ≡ done N → Judged N codes leak leak' ones ones' a
  -- every netlist that came about by masking, at all sizes, is clean under its input codes
  pub masking : (N : Netlist) (out_codes : List ℕ) → asked ≡ done N → Masking N codes out_codes → a ≡ Ok Clean

-- the sizes, the text and the input codes, then each list and each table before and after the call
pub record Promise (s : Sizes) (text codes leak leak' ones ones' o o' r r' g g' w w' b b' t t' : List ℕ)
    (a : Result Verdict Refusal) : Type 0 where
  pub answers : Answers (call s text codes o r g w b t) codes leak leak' ones ones' a
  pub operands : Cleared o o'
  pub results : Cleared r r'
  pub marks : Cleared g g'
  pub words : Cleared w w'
  pub base : Cleared b b'
  pub records : Cleared t t'
