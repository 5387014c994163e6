-- What reading equations promises of a call.
use Rattle.std.specs.Prelude.{Ok, Err, Result, ℕ, ◌/◌, ◌≡◌, List, [], ◌∷◌, length, take}
use Rattle.netlist.specs.declared.Refusal.{Refusal}
use Rattle.netlist.specs.declared.Refusal.TheVariants as Q
use Rattle.netlist.specs.declared.Sizes.{Sizes}
use Rattle.netlist.specs.Netlist.{source_limits}
use Rattle.netlist.specs.Outcome.{Outcome}
use Rattle.netlist.specs.Services.{Answers, Cleared}
use Rattle.verilog.specs.Call.{equations_call}
use Rattle.verilog.specs.Delivered.{Delivered}
use Rattle.verilog.specs.Unread.{Unread}

-- a table of names has eight numbers an entry: a text has fewer names than that for each entry of question 1
abbrev pub entries_of : ℕ → ℕ
entries_of n = n / 8

-- the lengths of the tables of operands and results, and of those of names
abbrev pub lengths : List ℕ → List ℕ → List ℕ → List ℕ → List ℕ → List ℕ → List ℕ → List ℕ
lengths o r h w l st ws =
    length o ∷ length r ∷ entries_of (length h) ∷ entries_of (length w) ∷ entries_of (length l) ∷ entries_of
    (length st) ∷ entries_of (length ws) ∷ []

-- the outcome of a call that is handed its sizes, a text, a result buffer, tables of operands and results, and five of
-- names
abbrev pub call : Sizes → List ℕ → List ℕ → List ℕ → List ℕ → List ℕ → List ℕ → List ℕ → List ℕ → List ℕ
    → Outcome (List ℕ)
call s text out o r h w l st ws = equations_call (source_limits s) (lengths o r h w l st ws) text (length out)

-- the sizes and the text, then the result buffer and each table before and after the call
pub record Promise (s : Sizes) (text out out' o o' r r' h h' w w' l l' st st' ws ws' : List ℕ) (a : Result ℕ Refusal) :
    Type 0 where
  pub answers : Answers (call s text out o r h w l st ws) out out' a
  -- the text written reads back as the netlist made, which is well formed and computes what the equations say
  pub delivered : (n : ℕ) → a ≡ Ok n → Delivered s text (take n out')
  -- refused by 16 exactly if no reading of the grammar gives the text
  pub grammar : a ≡ Err Q.Grammar → Unread (source_limits s) (lengths o r h w l st ws) text
  pub unread : Unread (source_limits s) (lengths o r h w l st ws) text → a ≡ Err Q.Grammar
  pub operands : Cleared o o'
  pub results : Cleared r r'
  pub heads : Cleared h h'
  pub words : Cleared w w'
  pub links : Cleared l l'
  pub states : Cleared st st'
  pub wires : Cleared ws ws'
