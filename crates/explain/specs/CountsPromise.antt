-- What the counts of a wire promise of a call.
use Rattle.std.specs.Prelude.{Ok, Result, ℕ, ◌≡◌, List, [], ◌∷◌, ltb, length, take}
use Rattle.netlist.specs.declared.Limits.{Limits}
use Rattle.netlist.specs.declared.Refusal.{Refusal}
use Rattle.netlist.specs.declared.Sizes.{Sizes}
use Rattle.netlist.specs.Netlist.{Netlist, masked_limits}
use Rattle.netlist.specs.Outcome.{Outcome, done, ask, and_then}
use Rattle.netlist.specs.Read.{read_netlist}
use Rattle.netlist.specs.Services.{tables_long, delivered, Answers, Cleared}
use Rattle.causes.specs.Promise.{explained}
use Rattle.explain.specs.Counts.{counts, WireCounted}

-- questions 10 to 12, 21 and 14 of a netlist
abbrev pub counts_outcome : List ℕ → ℕ → ℕ → Netlist → Outcome (List ℕ)
counts_outcome codes w room N = explained (ask 21 (ltb w N.wires) (delivered room (counts N codes w))) codes N

-- questions 1 to 12, 21 and 14
unfoldable pub counts_call : Limits → List ℕ → List ℕ → List ℕ → ℕ → ℕ → Outcome (List ℕ)
counts_call L tables text codes w room = ask 1 (tables_long L tables)
    (and_then (read_netlist L text) (counts_outcome codes w room))

-- the outcome of a call that is handed its sizes, a text, input codes, a wire, a result buffer, and tables of operands,
-- results, bits, words and the bits of bases
abbrev pub call : Sizes → List ℕ → List ℕ → ℕ → List ℕ → List ℕ → List ℕ → List ℕ → List ℕ → List ℕ
    → Outcome (List ℕ)
call s text codes wire out o r g w b = counts_call (masked_limits s)
    (length o ∷ length r ∷ length g ∷ length w ∷ length b ∷ []) text codes wire (length out)

-- the sizes, the text, the input codes and the wire, then the result buffer and each table before and after the call
pub record Promise (s : Sizes) (text codes : List ℕ) (wire : ℕ) (out out' o o' r r' g g' w w' b b' : List ℕ)
    (a : Result ℕ Refusal) : Type 0 where
  pub answers : Answers (call s text codes wire out o r g w b) out out' a
  -- the numbers are those of the wire, in the netlist that the text reads as
  pub counted : (n : ℕ) (N : Netlist) → a ≡ Ok n → read_netlist (masked_limits s) text ≡ done N
      → WireCounted N codes wire (take n out')
  pub operands : Cleared o o'
  pub results : Cleared r r'
  pub bits : Cleared g g'
  pub words : Cleared w w'
  pub bases : Cleared b b'
