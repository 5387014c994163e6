-- From the file's bytes to what *rewrite* prints.
use Rattle.std.specs.Prelude.{Result}
use Prim.Native.Nat.{ℕ, ◌≤◌}
use mathlib.Core.Path.{◌≡◌, sym, ap, ◌∙◌}
use mathlib.Core.Bool.{Bool, true}
use mathlib.Core.List.{List, [], ◌∷◌}
use lib.ListN.{length}
use borrow.Author.Tests.{le-leb}
use Rattle.netlist.specs.declared.Refusal.{Refusal}
use Rattle.netlist.specs.declared.Sizes.TheVariants.{Standard}
use Rattle.netlist.specs.Netlist.{masked_limits}
use Rattle.netlist.specs.Outcome.{Outcome, ask, and_then}
use Rattle.netlist.specs.Read.{read_netlist}
use Rattle.netlist.specs.Services.{tables_long, outcome_of, Answers, rewrite_outcome, rewrite_call}
use Rattle.program.specs.Programs.{print_rewrite, rewrite_program, file_limit}
use Rattle.convert.specs.RewritePromise.{call}
use Rattle.program.specs.Front.{Front, Answered}
use Rattle.program.proofs.Reporting.{readable-short, answered, answered-as}
use Rattle.cli_rewrite.specs.Report.{outcome}

-- question 1 admits the program's tables, and question 14 every text
pub record Roomy (b o r g : List ℕ) : Type 0 where
  pub text : length b ≡ (masked_limits Standard).text
  pub operands : (masked_limits Standard).table ≤ length o
  pub results : (masked_limits Standard).table ≤ length r
  pub marks : (masked_limits Standard).table ≤ length g

-- the tables and the buffer are long enough
call-roomy : (netlist : List ℕ) {b o r g : List ℕ} → Roomy b o r g → length netlist ≤ file_limit
    → call Standard netlist b o r g ≡ outcome netlist
unfolding rewrite_call
call-roomy netlist {b} {o} {r} {g} m h =
    let long : tables_long (masked_limits Standard) (length o ∷ length r ∷ length g ∷ []) ≡ true
    = rw (
      le-leb (masked_limits Standard).table (length o) m.operands,
      le-leb (masked_limits Standard).table (length r)
          m.results,
      le-leb (masked_limits Standard).table (length g) m.marks,
    ) in
    ap (λ (t : Bool). ask 1 t (and_then (read_netlist (masked_limits Standard) netlist) (rewrite_outcome (length b))))
    long
    ∙ ap (λ (room : ℕ). and_then (read_netlist (masked_limits Standard) netlist) (rewrite_outcome room)) m.text
    ∙ sym (readable-short netlist _ h)

pub answer-short : (netlist : List ℕ) {b o r g x : List ℕ} {a : Result ℕ Refusal} → Roomy b o r g
    → length netlist ≤ file_limit
    → Answers (call Standard netlist b o r g) b x a → Answered (outcome netlist) x a
answer-short netlist m h w = answered-as (call-roomy netlist m h) (answered w)

-- an answer printed
pub prints-as : {a : Result ℕ Refusal} {x : List ℕ} {r : ℕ} (e : List ℕ) (b : Result ℕ Refusal) → a ≡ b
    → Front x r (print_rewrite (outcome_of e b))
    → Front x r (print_rewrite (outcome_of e a))
prints-as e b p f = rw p f

-- the outcome printed
pub reports : (netlist : List ℕ) {o : Outcome (List ℕ)} {x : List ℕ} {r : ℕ} → o ≡ outcome netlist
    → Front x r (print_rewrite o)
    → Front x r (rewrite_program netlist)
unfolding rewrite_program
reports netlist p f = rw p at f
