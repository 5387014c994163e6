-- The outcome of a call that reads a text in one dialect and writes its netlist in another.
use Rattle.std.specs.Prelude.{Result, ℕ, Bool, true, ◌&&◌, List, [], ◌∷◌, leb, length}
use Rattle.netlist.specs.declared.Gate.{Gate}
use Rattle.netlist.specs.declared.Refusal.{Refusal}
use Rattle.netlist.specs.declared.Limits.{Limits}
use Rattle.netlist.specs.declared.Sizes.{Sizes}
use Rattle.netlist.specs.Lists.{every}
use Rattle.netlist.specs.Netlist.{Netlist, masked_limits}
use Rattle.netlist.specs.Outcome.{Outcome, ask, and_then}
use Rattle.netlist.specs.Services.{tables_long, rewrite_outcome, Answers, Cleared}
use Rattle.netlist.specs.Table.{gate_in}
use Rattle.dialect.specs.declared.Dialect.{Dialect}
use Rattle.dialect.specs.declared.Dialect.TheVariants.{Fashion, Old}
use Rattle.dialect.specs.OldWrite.{is_old_gate}
use Rattle.dialect.specs.OldCalls.{to_old_outcome}
use Rattle.dialect.specs.Dialects.{read_in}

-- the entry of a result and its kind is that of XOR, AND or INV
abbrev pub old_entry : ℕ → Bool
old_entry r = is_old_gate (gate_in 0 r)

-- question 15, which only the older dialect puts, of gates and of so many input and output values
abbrev pub has_form : Dialect → List Gate → ℕ → ℕ → Bool
has_form Fashion gates inputs outputs = true
has_form Old gates inputs outputs = every is_old_gate gates && leb inputs 2 && leb outputs 1

-- what follows a netlist that was read
abbrev pub form_outcome : Dialect → ℕ → Netlist → Outcome (List ℕ)
form_outcome Fashion room N = rewrite_outcome room N
form_outcome Old room N = to_old_outcome room N

-- questions 1 to 9, 15 and 14
abbrev pub convert_call : Dialect → Dialect → Limits → List ℕ → List ℕ → ℕ → Outcome (List ℕ)
convert_call from to L tables text room = ask 1 (tables_long L tables)
    (and_then (read_in from L text) (form_outcome to room))

-- with the large limits, a result buffer, and tables of operands, results and given wires
abbrev pub call : Dialect → Dialect → Sizes → List ℕ → List ℕ → List ℕ → List ℕ → List ℕ → Outcome (List ℕ)
call from to s text out o r g = convert_call from to (masked_limits s) (length o ∷ length r ∷ length g ∷ []) text
    (length out)

-- the answer and the result buffer are those of the outcome, and the tables are zero
pub record Converts (from to : Dialect) (s : Sizes) (text out out' o o' r r' g g' : List ℕ) (a : Result ℕ Refusal) :
    Type 0 where
  pub answers : Answers (call from to s text out o r g) out out' a
  pub operands : Cleared o o'
  pub results : Cleared r r'
  pub marks : Cleared g g'
