-- What the call from the older dialect promises.
use Rattle.std.specs.Prelude.{Ok, Result, ℕ, ◌≡◌, List, [], ◌∷◌, length, take}
use Rattle.netlist.specs.declared.Refusal.{Refusal}
use Rattle.netlist.specs.declared.Sizes.{Sizes}
use Rattle.netlist.specs.Netlist.{Netlist, masked_limits}
use Rattle.netlist.specs.Outcome.{Outcome, done, ask}
use Rattle.netlist.specs.Read.{read_netlist}
use Rattle.netlist.specs.Services.{tables_long, delivered, Answers, Cleared}
use Rattle.dialect.specs.OldRead.{read_old}
use Rattle.dialect.specs.OldWrite.{write_old}
use Rattle.dialect.specs.OldCalls.{from_old_call, to_old_call}

-- the outcome of a call that is handed its sizes, a text, a result buffer, and tables of operands, results and given
-- wires
abbrev pub call : Sizes → List ℕ → List ℕ → List ℕ → List ℕ → List ℕ → Outcome (List ℕ)
call s text out o r g = from_old_call (masked_limits s) (length o ∷ length r ∷ length g ∷ []) text (length out)

-- old to Fashion to old: the call back, with any tables and any room, gives the old written form of N, which reads as N
pub record Back (s : Sizes) (fashion : List ℕ) (N : Netlist) : Type 0 where
  pub call : (tables : List ℕ) (room : ℕ)
      → to_old_call (masked_limits s) tables fashion room ≡ ask 1 (tables_long (masked_limits s) tables)
      (delivered room (write_old N))
  pub same : read_old (masked_limits s) (write_old N) ≡ done N

-- the sizes and the text, then the result buffer and each table before and after the call
pub record Promise (s : Sizes) (text out out' o o' r r' g g' : List ℕ) (a : Result ℕ Refusal) : Type 0 where
  pub answers : Answers (call s text out o r g) out out' a
  -- the text written reads as the netlist that was read, gates unchanged
  pub same : (n : ℕ) (N : Netlist) → a ≡ Ok n → read_old (masked_limits s) text ≡ done N
      → read_netlist (masked_limits s) (take n out') ≡ done N
  -- and back
  pub back : (n : ℕ) (N : Netlist) → a ≡ Ok n → read_old (masked_limits s) text ≡ done N → Back s (take n out') N
  pub operands : Cleared o o'
  pub results : Cleared r r'
  pub marks : Cleared g g'
