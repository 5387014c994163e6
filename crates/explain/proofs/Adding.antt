-- A variable added, from the last entry to the first.
use mathlib.Core.Path.{◌≡◌, refl, sym, ap, ap₂, ◌∙◌, subst}
use mathlib.Core.Bool.{Bool, true, false, ◌&&◌}
use mathlib.Core.List.{List}
use mathlib.Core.Logic.{◌≢◌}
use Prim.Native.Nat.{ℕ, ◌+◌, ◌-◌, ◌^◌, ◌≤◌, ◌<◌}
use native.Mathlib.Omega.{arith}
use borrow.Author.Tests.{eqb-true, eqb-false}
use lib.Bits.{bit_xor}
use lib.Dec.{eqb}
use lib.ListN.{length, get_or, set, length-set}
use lib.Seq.{get_or-set_same, get_or-set_other}
use Rattle.netlist.specs.Eval.{differs, bit}
use Rattle.netlist.proofs.Tests.{on_bool}
use Rattle.evaluate.specs.Lane.{lane}
use Rattle.explain.specs.Polynomial.{added}
use Rattle.explain.specs.Table.{Bits}

pub bit-one : (b : Bool) → eqb (bit b) 1 ≡ b
bit-one true = refl
bit-one false = refl

xor-bits : (a b : Bool) → bit_xor (bit a) (bit b) ≡ bit (differs a b)
xor-bits true true = refl
xor-bits true false = refl
xor-bits false true = refl
xor-bits false false = refl

differs-none : (a : Bool) → differs a false ≡ a
differs-none true = refl
differs-none false = refl

-- the entries from n on are added to, and those before are as they were
pub record Adding (v : ℕ) (t₀ t : List ℕ) (n : ℕ) : Type 0 where
  pub passed : n ≤ length t₀
  pub long : length t ≡ length t₀
  pub done : (f : ℕ → Bool) → Bits f t₀ → (i : ℕ) → n ≤ i → i < length t₀ → get_or t i 0 ≡ bit (added v f i)
  pub rest : (i : ℕ) → i < n → get_or t i 0 ≡ get_or t₀ i 0

pub adding-none : (v : ℕ) (t : List ℕ) (n : ℕ) → n ≡ length t → Adding v t t n
adding-none v t n e = record {
  passed = omega arith;
  long = refl;
  done = λ f h i a b. absurd (omega arith);
  rest = λ i l. refl;
}

module _ {v : ℕ} {t₀ t : List ℕ} {n : ℕ} (r : Adding v t₀ t n) (m : ℕ) (next : m + 1 ≡ n) where
  -- one entry more is told
  told : (t' : List ℕ) → length t' ≡ length t → ((i : ℕ) → i ≢ m → get_or t' i 0 ≡ get_or t i 0)
      → ((f : ℕ → Bool) → Bits f t₀ → get_or t' m 0 ≡ bit (added v f m)) → Adding v t₀ t' m
  told t' long others here = record {
    passed = omega (arith, r.passed, next);
    long = long ∙ r.long;
    done = λ f h i a b. on_bool (eqb i m)
        (λ e. subst (λ (k : ℕ). get_or t' k 0 ≡ bit (added v f k)) (sym (eqb-true i m e)) (here f h))
        (λ e. let d = eqb-false i m e in others i d ∙ r.done f h i (omega (arith, d, a, next)) b);
    rest = λ i l. others i (omega (arith, l)) ∙ r.rest i (omega (arith, l, next));
  }

  pub adding-kept : lane v m ≡ false → Adding v t₀ t m
  adding-kept zero = told t refl (λ i d. refl) (λ f h.
      let b : (lane v m && f (m - 2 ^ v)) ≡ false = rw zero refl in
      r.rest m (omega (arith, next)) ∙ h m (omega (arith, next, r.passed))
      ∙ ap bit (sym (differs-none (f m)) ∙ ap (differs (f m)) (sym b)))

  pub adding-more : (x : ℕ) → lane v m ≡ true → x ≡ bit_xor (get_or t m 0) (get_or t (m - 2 ^ v) 0)
      → Adding v t₀ (set t m x) m
  adding-more x one e = told (set t m x) (length-set t m x) (λ i d. get_or-set_other t m i x 0 d) (λ f h.
      let b : (lane v m && f (m - 2 ^ v)) ≡ f (m - 2 ^ v) = rw one refl in
      get_or-set_same t m x 0 (omega (arith, next, r.passed, r.long)) ∙ e
      ∙ ap₂ bit_xor (r.rest m (omega (arith, next)) ∙ h m (omega (arith, next, r.passed)))
      (r.rest (m - 2 ^ v) (omega (arith, next)) ∙ h (m - 2 ^ v) (omega (arith, next, r.passed)))
      ∙ xor-bits (f m) (f (m - 2 ^ v)) ∙ ap bit (ap (differs (f m)) (sym b)))
