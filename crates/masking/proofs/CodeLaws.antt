-- What holds of the two code formulas, by tests computed over all codes.
use Prim.Native.Nat.{ℕ, zero, suc, ◌≤◌}
use mathlib.Core.Path.{◌≡◌}
use mathlib.Core.Bool.{Bool, false, not, ◌&&◌, ◌||◌}
use native.Mathlib.Omega.{arith}
use lib.Dec.{T, T_not, eqb, leb, eqb→eq, leb→le, le→leb}
use borrow.Author.Tests.{eqb-false}
use Rattle.masking.specs.Mask.{is_code, is_wanted, third, after}
use Rattle.netlist.proofs.Tests.{both, pair, either}

-- a code is 1, 2 or 3
pub code-most : (e : ℕ) → T (is_code e) → e ≤ 3
code-most e c = leb→le e 3 (both (leb 1 e) (leb e 3) c).1

pub on_code : (P : ℕ → Type 0) → P 1 → P 2 → P 3 → (e : ℕ) → T (is_code e) → P e
on_code P p q r zero c = absurd c
on_code P p q r (suc zero) c = p
on_code P p q r (suc (suc zero)) c = q
on_code P p q r (suc (suc (suc zero))) c = r
on_code P p q r (suc (suc (suc (suc e)))) c = absurd (omega (arith, code-most (suc (suc (suc (suc e)))) c))

-- a test of every code
abbrev pub every_code : (ℕ → Bool) → Bool
every_code p = p 1 && (p 2 && p 3)

pub every_code-at : (p : ℕ → Bool) → T (every_code p) → (e : ℕ) → T (is_code e) → T (p e)
every_code-at p t =
    let r = both (p 1) (p 2 && p 3) t in
    let s = both (p 2) (p 3) r.1 in
    on_code (λ e. T (p e)) r.0 s.0 s.1

-- a test of every two codes, and of every two different codes
abbrev pub every_pair : (ℕ → ℕ → Bool) → Bool
every_pair p = every_code λ e. every_code (p e)

pub every_pair-at : (p : ℕ → ℕ → Bool) → T (every_pair p) → (e f : ℕ) → T (is_code e) → T (is_code f) → T (p e f)
every_pair-at p t e f c d = every_code-at (p e) (every_code-at (λ e. every_code (p e)) t e c) f d

abbrev pub every_two : (ℕ → ℕ → Bool) → Bool
every_two p = every_pair λ e f. eqb e f || p e f

pub every_two-at : (p : ℕ → ℕ → Bool) → T (every_two p) → (e f : ℕ) → T (is_code e) → T (is_code f) → T (not (eqb e f))
    → T (p e f)
every_two-at p t e f c d n = either (eqb e f) (p e f) (λ s. absurd (T_not (eqb e f) n s)) (λ r. r)
    (every_pair-at (λ e f. eqb e f || p e f) t e f c d)

-- the third of two different codes is a code, another than the first, and with the first it leads back to the second
pub third-code : (e f : ℕ) → T (is_code e) → T (is_code f) → T (not (eqb e f)) → T (is_code (third e f))
third-code = every_two-at (λ e f. is_code (third e f)) tt

pub third-other : (e f : ℕ) → T (is_code e) → T (is_code f) → T (not (eqb e f)) → T (not (eqb e (third e f)))
third-other = every_two-at (λ e f. not (eqb e (third e f))) tt

pub third_back : (e f : ℕ) → T (is_code e) → T (is_code f) → T (not (eqb e f)) → third e (third e f) ≡ f
third_back e f c d n = eqb→eq _ _ (every_two-at (λ e f. eqb (third e (third e f)) f) tt e f c d n)

-- the code after a code is another code
pub after-code : (e : ℕ) → T (is_code e) → T (is_code (after e))
after-code = every_code-at (λ e. is_code (after e)) tt

pub after-other : (e : ℕ) → T (is_code e) → T (not (eqb e (after e)))
after-other = every_code-at (λ e. not (eqb e (after e))) tt

-- a wanted code that is not 0 is a code
pub wanted-code : (e : ℕ) → T (is_wanted e) → eqb e 0 ≡ false → T (is_code e)
wanted-code e t z = let ne : e ≡ 0 → ⊥ = eqb-false e 0 z in pair (leb 1 e) (leb e 3) (le→leb 1 e (omega arith)) t
