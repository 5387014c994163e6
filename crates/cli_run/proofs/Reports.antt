-- From the bytes of the two files to what *run* prints.
use Rattle.std.specs.Prelude.{Result}
use Prim.Native.Nat.{ℕ, ◌≤◌}
use mathlib.Core.Path.{◌≡◌, sym, ap, ◌∙◌}
use mathlib.Core.Bool.{Bool, true}
use mathlib.Core.List.{List, [], ◌∷◌}
use lib.ListN.{length}
use borrow.Author.Tests.{le-leb}
use Rattle.netlist.specs.declared.Refusal.{Refusal}
use Rattle.netlist.specs.declared.Sizes.TheVariants.{Standard}
use Rattle.netlist.specs.Netlist.{masked_limits}
use Rattle.netlist.specs.Outcome.{Outcome, ask, and_then}
use Rattle.netlist.specs.Read.{read_netlist}
use Rattle.netlist.specs.Services.{tables_long, outcome_of, Answers, run_outcome, run_call}
use Rattle.program.specs.Programs.{list_file, print_run, run_program, file_limit}
use Rattle.run.specs.Promise.{call}
use Rattle.program.specs.Front.{Front, Answered}
use Rattle.program.proofs.Reporting.{readable-short, answered, answered-as}
use Rattle.cli_run.specs.Report.{outcome}

-- question 1 admits the program's tables, and question 14 the bits of every netlist
pub record Roomy (b o r g w : List ℕ) : Type 0 where
  pub bits : length b ≡ (masked_limits Standard).wires
  pub operands : (masked_limits Standard).table ≤ length o
  pub results : (masked_limits Standard).table ≤ length r
  pub marks : (masked_limits Standard).table ≤ length g
  pub words : (masked_limits Standard).table ≤ length w

-- the tables and the buffer are long enough
call-roomy : (netlist inputs : List ℕ) {list b o r g w : List ℕ} → Roomy b o r g w → length netlist ≤ file_limit → list
    ≡ list_file inputs
    → call Standard netlist list b o r g w ≡ outcome netlist inputs
unfolding run_call
call-roomy netlist inputs {list} {b} {o} {r} {g} {w} m h e =
    let long : tables_long (masked_limits Standard) (length o ∷ length r ∷ length g ∷ length w ∷ []) ≡ true
    = rw (
      le-leb (masked_limits Standard).table (length o) m.operands,
      le-leb (masked_limits Standard).table (length r) m.results,
      le-leb (masked_limits Standard).table (length g) m.marks,
      le-leb (masked_limits Standard).table (length w) m.words,
    ) in
    ap (λ (t : Bool). ask 1 t (and_then (read_netlist (masked_limits Standard) netlist) (run_outcome list (length b))))
    long
    ∙ ap (λ (room : ℕ). and_then (read_netlist (masked_limits Standard) netlist) (run_outcome list room)) m.bits
    ∙ ap (λ (l : List ℕ). run_call (masked_limits Standard) [] netlist l (masked_limits Standard).wires) e
    ∙ sym (readable-short netlist _ h)

pub answer-short : (netlist inputs list : List ℕ) {b o r g w x : List ℕ} {a : Result ℕ Refusal} → Roomy b o r g w
    → length netlist ≤ file_limit
    → list ≡ list_file inputs
    → Answers (call Standard netlist list b o r g w) b x a → Answered (outcome netlist inputs) x a
answer-short netlist inputs list m h e s = answered-as (call-roomy netlist inputs m h e) (answered s)

-- an answer printed
pub prints-as : {a : Result ℕ Refusal} {x : List ℕ} {r : ℕ} (e : List ℕ) (b : Result ℕ Refusal) → a ≡ b
    → Front x r (print_run (outcome_of e b))
    → Front x r (print_run (outcome_of e a))
prints-as e b p f = rw p f

-- the outcome printed
pub reports : (netlist inputs : List ℕ) {o : Outcome (List ℕ)} {x : List ℕ} {r : ℕ} → o ≡ outcome netlist inputs
    → Front x r (print_run o)
    → Front x r (run_program netlist inputs)
unfolding run_program
reports netlist inputs p f = rw p at f
