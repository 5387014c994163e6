-- The lines that the programs print.
use Prim.Native.Nat.{ℕ, ◌+◌, ◌*◌, ◌≤◌, ◌<◌}
use mathlib.Core.Path.{◌≡◌, refl, sym, ap, ◌∙◌}
use mathlib.Core.List.{List, [], ◌∷◌, ◌++◌, append_assoc, append-nil}
use native.Mathlib.Numerals.{add-one}
use native.Mathlib.Omega.{arith}
use lib.ListN.{length, take, get_or, length-append}
use lib.Seq.{take-suc, take_all}
use Rattle.netlist.specs.Number.{decimal}
use Rattle.program.specs.Programs.{print_list}
use Rattle.writer.specs.Wrote.{Wrote, WroteFew}
use Rattle.writer.proofs.Decimals.{digits-most}
use Rattle.writer.proofs.Writing.{wrote_then, wrote_as}

print_list-append : (xs ys : List ℕ) → print_list (xs ++ ys) ≡ print_list xs ++ print_list ys
print_list-append [] ys = refl
print_list-append (x ∷ xs) ys =
    ap (λ (l : List ℕ). decimal x ++ l) (print_list-append xs ys)
    ∙ sym (append_assoc (decimal x) (print_list xs) (print_list ys))

-- the first i entries, each of three digits at most, are printed
pub record Printing (e : List ℕ) (at : ℕ) (s x : List ℕ) (r i : ℕ) : Type 0 where
  pub passed : i ≤ length s
  pub wrote : Wrote e at (print_list (take i s)) x r
  pub few : length (print_list (take i s)) ≤ 3 * i

pub printing-more : {e m x s : List ℕ} {at r t i v : ℕ} → Printing e at s m r i → i < length s → v ≡ get_or s i 0
    → v < 256 → Wrote m r (decimal v) x t
    → Printing e at s x t (i + 1)
printing-more {s = s} {i = i} {v = v} p h q b w =
    let more : print_list (take (i + 1) s) ≡ print_list (take i s) ++ decimal v =
    ap (λ (k : ℕ). print_list (take k s)) (add-one i) ∙ ap print_list (take-suc s i 0 h) ∙ print_list-append (take i s)
    (get_or s i 0 ∷ [])
    ∙ ap (λ (l : List ℕ). print_list (take i s) ++ l) (append-nil (decimal (get_or s i 0)) ∙ ap decimal (sym q)) in
    let short : length (decimal v) ≤ 3 = digits-most 3 v (omega arith) (omega arith) (omega arith) in
    record {
      passed = omega arith;
      wrote = wrote_as (sym more) (wrote_then p.wrote w);
      few = rw (more, length-append) (omega (arith, p.few));
    }

pub printing-all : {e x s : List ℕ} {at r i : ℕ} → Printing e at s x r i → length s ≤ i → WroteFew (3 * length s) e at
    (print_list s) x r
printing-all {s = s} {i = i} p h =
    let all : take i s ≡ s = take_all i s h in
    let n : i ≡ length s = omega (arith, p.passed) in
    record {
      wrote = wrote_as (ap print_list all) p.wrote;
      few
          = omega (arith, p.few, ap (λ (l : List ℕ). length (print_list l)) all);
    }
