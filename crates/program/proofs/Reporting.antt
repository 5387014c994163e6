-- From a call's outcome to what a program prints.
use Rattle.std.specs.Prelude.{Ok, Result}
use Prim.Native.Nat.{ℕ, zero, suc, ◌/◌, ◌≤◌}
use mathlib.Core.Path.{◌≡◌, sym, ap, ◌∙◌}
use mathlib.Core.List.{List}
use native.Mathlib.Omega.{arith}
use lib.Dec.{leb}
use lib.ListN.{length, take, length-append, length-take}
use borrow.Author.Tests.{le-leb}
use Rattle.netlist.specs.Number.{digits, decimal}
use Rattle.netlist.specs.declared.Refusal.{Refusal}
use Rattle.netlist.specs.Outcome.{Outcome, refused, done}
use Rattle.netlist.specs.Services.{outcome_of, Counts, Answers}
use Rattle.program.specs.Programs.{readable, print_refused, file_limit}
use Rattle.netlist.proofs.Tests.{clash, on_bool}
use Rattle.netlist.proofs.Questions.{done-same}
use Rattle.writer.specs.Wrote.{Wrote, WroteFew}
use Rattle.writer.proofs.Writing.{wrote-front, front-within}
use Rattle.program.specs.Front.{Front, Answered}

-- ---- question 2, put to a netlist file

pub readable-short : {A : Type 0} (file : List ℕ) (o : Outcome A) → length file ≤ file_limit → readable file o ≡ o
readable-short file o h = rw (le-leb (length file) file_limit h)

-- ---- a service's answer

counted-done : (o : Outcome (List ℕ)) (x : List ℕ) {a : Result ℕ Refusal} (n : ℕ) → Counts o a → outcome_of x a ≡ o → a
    ≡ Ok n → n ≤ length x
counted-done (refused q) x n p e d = clash (cc)
counted-done (done bytes) x n p e d =
    let same : n ≡ length bytes = cc in
    let is : take n x ≡ bytes = done-same _ _ (ap (outcome_of x) (sym d) ∙ e) in
    omega (arith, length-take n x, ap length is)

pub answered : {o : Outcome (List ℕ)} {e x : List ℕ} {a : Result ℕ Refusal} → Answers o e x a → Answered o x a
answered {o} {x = x} w = record { outcome = w.outcome; counted = λ n. counted-done o x n w.answer w.outcome }

pub answered-as : {o p : Outcome (List ℕ)} {x : List ℕ} {a : Result ℕ Refusal} → o ≡ p → Answered o x a → Answered p x a
answered-as e w = rw e at w

-- ---- lines in a buffer that holds them

pub wrote-first : {e x u : List ℕ} {r : ℕ} → Wrote e 0 u x r → length u ≤ length e → Front x r u
wrote-first w h = record { within = front-within w h; same = wrote-front w h }

pub few-first : {e x u : List ℕ} {r k : ℕ} → WroteFew k e 0 u x r → k ≤ length e → Front x r u
few-first w h = wrote-first w.wrote (omega (arith, w.few))

length_digits : (k n : ℕ) → length (digits k n) ≤ k
length_digits zero n = omega arith
length_digits (suc k) n =
    on_bool (leb n 9) (λ e. rw e (omega arith)) λ e. let h = length_digits k (n / 10)
    in rw e (simp length-append (omega arith))

pub length-decimal : (n : ℕ) → length (decimal n) ≤ 20
unfolding decimal
length-decimal n = length_digits 20 n

-- a refusal's line
pub refused-first : {e x : List ℕ} {r : ℕ} (q : ℕ) → Wrote e 0 (print_refused q) x r → 64 ≤ length e
    → Front x r (print_refused q)
refused-first q w k = let h = length-decimal q in wrote-first w (simp length-append (omega arith))
