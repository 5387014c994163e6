-- From a text that was read to the promise.
use Rattle.std.specs.Prelude.{Err, Ok, Result}
use Prim.Native.Nat.{ℕ, ◌+◌, ◌*◌, ◌≤◌, ◌<◌}
use mathlib.Core.Path.{◌≡◌, refl, sym, ap, ◌∙◌}
use mathlib.Core.Bool.{true, false}
use mathlib.Core.List.{List, [], ◌∷◌}
use native.Mathlib.Omega.{arith}
use lib.ListN.{length, take}
use Rattle.netlist.specs.declared.Limits.{Limits}
use Rattle.netlist.specs.declared.Sizes.{Sizes}
use Rattle.netlist.specs.declared.Sizes.TheVariants.{Standard, Whole}
use Rattle.netlist.specs.declared.Refusal.{Refusal}
use Rattle.netlist.specs.declared.Refusal.TheVariants as Q
use Rattle.netlist.specs.Netlist.{source_limits}
use Rattle.netlist.specs.Refusal.{number_of}
use Rattle.netlist.specs.Outcome.{Outcome, refused, done, and_then}
use Rattle.netlist.specs.Services.{tables_long, rewrite_outcome, outcome_of, Answers}
use Rattle.netlist.specs.Table.{half}
use Rattle.netlist.proofs.Questions.{refused-done}
use Rattle.netlist.proofs.Answering.{answers_one, answers-rest, tables-long}
use Rattle.verilog.specs.Call.{read_equations, equations_call}
use Rattle.verilog.specs.Delivered.{Delivered}
use Rattle.verilog.specs.Unread.{Unread}
use Rattle.verilog.proofs.Accepted.{equations-delivered}
use Rattle.verilog.proofs.Refused.{grammar-unread, unread-grammar}
use Rattle.from_verilog.specs.Promise.{entries_of, lengths, call}

-- what the reader requires of the limits of the sizes
pub record Fits (L : Limits) : Type 0 where
  pub names : L.text ≤ 32 * L.table
  pub tables : 8 * L.table < half
  pub places : L.wires + L.text + 1 < half
  pub gates : L.wires ≤ L.table

pub small-fits : (s : Sizes) → Fits (source_limits s)
small-fits Standard = record { names = omega arith; tables = omega arith; places = omega arith; gates = omega arith }
small-fits Whole = record { names = omega arith; tables = omega arith; places = omega arith; gates = omega arith }

-- so many numbers are in so many entries
pub entries-long : (n least : ℕ) → least ≤ entries_of n → 8 * least ≤ n
entries-long n least h = omega (arith, h)

pub some-table : (s : Sizes) → 0 < (source_limits s).table
some-table Standard = omega arith
some-table Whole = omega arith

-- the lengths that question 1 admits
pub record Long (s : Sizes) (a b c d e f g : ℕ) : Type 0 where
  pub first : (source_limits s).table ≤ a
  pub second : (source_limits s).table ≤ b
  pub heads : 0 < c
  pub words : 8 * (source_limits s).table ≤ d
  pub links : 8 * (source_limits s).table ≤ e
  pub states : 8 * (source_limits s).table ≤ f
  pub wires : 8 * (source_limits s).table ≤ g

pub long : (s : Sizes) (a b c d e f g : ℕ) → tables_long (source_limits s)
    (a ∷ b ∷ entries_of c ∷ entries_of d ∷ entries_of e ∷ entries_of f ∷ entries_of g ∷ []) ≡ true →
    Long s a b c d e f g
long s a b c d e f g h =
    let L = source_limits s in
    let p = tables-long L a (b ∷ entries_of c ∷ entries_of d ∷ entries_of e ∷ entries_of f ∷ entries_of g ∷ []) h in
    let q = tables-long L b (entries_of c ∷ entries_of d ∷ entries_of e ∷ entries_of f ∷ entries_of g ∷ []) p.1 in
    let u = tables-long L (entries_of c) (entries_of d ∷ entries_of e ∷ entries_of f ∷ entries_of g ∷ []) q.1 in
    let v = tables-long L (entries_of d) (entries_of e ∷ entries_of f ∷ entries_of g ∷ []) u.1 in
    let w = tables-long L (entries_of e) (entries_of f ∷ entries_of g ∷ []) v.1 in
    let x = tables-long L (entries_of f) (entries_of g ∷ []) w.1 in
    let y = tables-long L (entries_of g) [] x.1 in
    let z = entries-long c L.table u.0 in
    let o = some-table s in
    record {
      first = p.0;
      second = q.0;
      heads = omega (arith, z, o);
      words = entries-long d L.table v.0;
      links = entries-long e L.table w.0;
      states = entries-long f L.table x.0;
      wires = entries-long g L.table y.0;
    }

refused-same : {A : Type 0} {p q : ℕ} → ◌≡◌ {A = Outcome A} (refused p) (refused q) → p ≡ q
refused-same e = cc

-- the question with number 16
sixteen : (q : Refusal) → number_of q ≡ 16 → q ≡ Q.Grammar
sixteen Q.Tables e = absurd (omega arith)
sixteen Q.Length e = absurd (omega arith)
sixteen Q.Bytes e = absurd (omega arith)
sixteen Q.Header e = absurd (omega arith)
sixteen Q.Limits e = absurd (omega arith)
sixteen Q.Count e = absurd (omega arith)
sixteen Q.Line e = absurd (omega arith)
sixteen Q.Operands e = absurd (omega arith)
sixteen Q.Wire e = absurd (omega arith)
sixteen Q.Masks e = absurd (omega arith)
sixteen Q.Inputs e = absurd (omega arith)
sixteen Q.Settings e = absurd (omega arith)
sixteen Q.Wanted e = absurd (omega arith)
sixteen Q.Room e = absurd (omega arith)
sixteen Q.OldForm e = absurd (omega arith)
sixteen Q.Grammar e = refl
sixteen Q.Names e = absurd (omega arith)
sixteen Q.Depth e = absurd (omega arith)
sixteen Q.Aiger e = absurd (omega arith)
sixteen Q.Latches e = absurd (omega arith)
sixteen Q.Pairs e = absurd (omega arith)
sixteen Q.Budget e = absurd (omega arith)
sixteen Q.Gate e = absurd (omega arith)
sixteen Q.Place e = absurd (omega arith)
sixteen Q.Seam e = absurd (omega arith)
sixteen Q.State e = absurd (omega arith)
sixteen Q.Judged e = absurd (omega arith)

-- an answer that stands for a refusal by 16
refused-16 : (out : List ℕ) (a : Result ℕ Refusal) → outcome_of out a ≡ refused 16 → a ≡ Err Q.Grammar
refused-16 out (Ok n) e = absurd (refused-done 16 _ (sym e))
refused-16 out (Err q) e = ap (λ (q : Refusal). Err q) (sixteen q (refused-same e))

-- question 1
module _ (s : Sizes) (text out o r h w l st ws : List ℕ) where
  pub call-one : tables_long (source_limits s) (length o ∷ length r ∷ entries_of (length h) ∷ entries_of (length w) ∷
      entries_of (length l) ∷ entries_of (length st) ∷
      entries_of (length ws) ∷ []) ≡ false
      → Answers (call s text out o r h w l st ws) out out (Err Q.Tables)
  unfolding equations_call
  call-one p = answers_one (tables_long (source_limits s) (length o ∷ length r ∷ entries_of (length h) ∷ entries_of
      (length w) ∷ entries_of (length l) ∷ entries_of
      (length st) ∷ entries_of (length ws) ∷ [])) _ out p

  pub call-rest : {x : List ℕ} {a : Result ℕ Refusal}
      → tables_long (source_limits s) (length o ∷ length r ∷ entries_of (length h) ∷ entries_of (length w) ∷ entries_of
      (length l) ∷ entries_of (length st) ∷ entries_of
      (length ws) ∷ []) ≡ true
      → Answers (and_then (read_equations (source_limits s) text) (rewrite_outcome (length out))) out x a
      → Answers (call s text out o r h w l st ws) out x a
  unfolding equations_call
  call-rest p k = answers-rest (tables_long (source_limits s)
      (length o ∷ length r ∷ entries_of (length h) ∷ entries_of (length w) ∷ entries_of (length l) ∷ entries_of
      (length st) ∷ entries_of (length ws) ∷ [])) p k

  -- the result
  pub call-delivered : {x : List ℕ} {a : Result ℕ Refusal} → Answers (call s text out o r h w l st ws) out x a → (n : ℕ)
      → a ≡ Ok n → Delivered s text (take n x)
  call-delivered {x} {a} k n p =
      equations-delivered s (length o ∷ length r ∷ entries_of (length h) ∷ entries_of (length w) ∷ entries_of (length l)
      ∷ entries_of (length st) ∷ entries_of
      (length ws) ∷ []) text (length out) (take n x) (sym k.outcome ∙ ap (outcome_of x) p)

  -- question 16
  pub call-grammar : {x : List ℕ} {a : Result ℕ Refusal} → Answers (call s text out o r h w l st ws) out x a
      → a ≡ Err Q.Grammar → Unread (source_limits s) (lengths o r h w l st ws) text
  call-grammar {x} {a} k e =
      grammar-unread (source_limits s) (lengths o r h w l st ws) text (length out)
      (sym k.outcome ∙ ap (outcome_of x) e)

  pub call-unread : {x : List ℕ} {a : Result ℕ Refusal} → Answers (call s text out o r h w l st ws) out x a
      → Unread (source_limits s) (lengths o r h w l st ws) text → a ≡ Err Q.Grammar
  call-unread {x} {a} k U =
      refused-16 x a
      (k.outcome ∙ unread-grammar (source_limits s) (lengths o r h w l st ws) text (length out) U)
