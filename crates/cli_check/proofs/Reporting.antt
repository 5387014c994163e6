-- From the bytes of two files to the line that *check* prints.
use Prim.Native.Nat.{ℕ, zero, suc, ◌/◌, ◌≤◌}
use mathlib.Core.Path.{◌≡◌, sym, ap, ◌∙◌}
use mathlib.Core.Bool.{Bool, true}
use mathlib.Core.List.{List, [], ◌∷◌}
use mathlib.Core.Option.{Option, none, some}
use native.Mathlib.Omega.{arith}
use lib.Dec.{leb, lit≤}
use lib.ListN.{length, take, length-append}
use borrow.Author.Tests.{le-leb}
use Rattle.netlist.specs.declared.Sizes.TheVariants.{Standard}
use Rattle.netlist.specs.Netlist.{masked_limits}
use Rattle.netlist.specs.Number.{digits, decimal}
use Rattle.netlist.specs.Outcome.{Outcome, refused, done, ask, and_then}
use Rattle.netlist.specs.Read.{read_netlist}
use Rattle.masking.specs.Leak.{Found}
use Rattle.netlist.specs.Services.{tables_long}
use Rattle.masking.specs.Calls.{check_outcome, check_call}
use Rattle.program.specs.Programs.{readable, list_file, print_check, check_program, file_limit}
use Rattle.netlist.proofs.Tests.{on_bool}
use Rattle.writer.specs.Wrote.{Wrote}
use Rattle.writer.proofs.Writing.{wrote-front, front-within}
use Rattle.checker.specs.Promise.{call}

-- ---- the answer

-- question 1 admits the program's tables
pub record Roomy (o r g w b : List ℕ) : Type 0 where
  pub operands : (masked_limits Standard).table ≤ length o
  pub results : (masked_limits Standard).table ≤ length r
  pub marks : (masked_limits Standard).table ≤ length g
  pub words : (masked_limits Standard).table ≤ length w
  pub base : (masked_limits Standard).table ≤ length b

-- what the program asks of the bytes of its two files
abbrev pub asked : List ℕ → List ℕ → Outcome (Option Found)
asked netlist inputs = readable netlist (check_call (masked_limits Standard) [] netlist (list_file inputs))

-- tables that are long enough
call-roomy : {o r g w b : List ℕ} (text codes : List ℕ) → Roomy o r g w b → call Standard text codes o r g w b
    ≡ check_call (masked_limits Standard) [] text codes
unfolding check_call
call-roomy {o} {r} {g} {w} {b} text codes room =
    ap (λ (k : Bool). ask 1 k (and_then (read_netlist (masked_limits Standard) text) (check_outcome codes))) long
  where
    long : tables_long (masked_limits Standard) (length o ∷ length r ∷ length g ∷ length w ∷ length b ∷ []) ≡ true
    long =
        rw (
          le-leb (masked_limits Standard).table (length o) room.operands,
          le-leb (masked_limits Standard).table (length r) room.results,
          le-leb (masked_limits Standard).table (length g) room.marks,
          le-leb (masked_limits Standard).table (length w) room.words,
          le-leb (masked_limits Standard).table (length b) room.base,
        )

pub asked-short : {a : Outcome (Option Found)} {o r g w b : List ℕ} (netlist inputs codes : List ℕ) → Roomy o r g w b
    → length netlist ≤ file_limit
    → codes ≡ list_file inputs → a ≡ call Standard netlist codes o r g w b → a ≡ asked netlist inputs
asked-short netlist inputs codes room h e p =
    p ∙ call-roomy netlist codes room ∙ ap (check_call (masked_limits Standard) [] netlist) e
    ∙ sym (rw (le-leb (length netlist) file_limit h))

-- ---- the line

length_digits : (k n : ℕ) → length (digits k n) ≤ k
length_digits zero n = omega arith
length_digits (suc k) n =
    on_bool (leb n 9) (λ e. rw e (omega arith)) λ e. let h = length_digits k (n / 10)
    in rw e (simp length-append (omega arith))

length-decimal : (n : ℕ) → length (decimal n) ≤ 20
unfolding decimal
length-decimal n = length_digits 20 n

-- the room that the program has for a line
abbrev pub line_room : ℕ
line_room = 128

length-printed : (o : Outcome (Option Found)) → length (print_check o) ≤ line_room
length-printed (refused q) = let h = length-decimal q in simp length-append (omega arith)
length-printed (done none) = lit≤ tt
length-printed (done (some f)) =
    let w = length-decimal f.wire in
    let s = length-decimal f.at in
    let z = length-decimal f.base in
    let k = length-decimal f.own in
    simp length-append (omega arith)

pub reported : {e x : List ℕ} {r : ℕ} {a : Outcome (Option Found)} (netlist inputs : List ℕ) → a ≡ asked netlist inputs
    → Wrote e 0 (print_check a) x r
    → line_room ≤ length e
    → (r ≤ length x) × (take r x ≡ check_program netlist inputs)
unfolding check_program
reported {a = a} netlist inputs p w h =
    let l = length-printed a in
    (front-within w (omega arith), wrote-front w (omega arith) ∙ ap print_check p)
