-- The value of a function's polynomial is the function's.
use mathlib.Core.Path.{◌≡◌, refl, sym, ap, ap₂, ◌∙◌}
use mathlib.Core.Bool.{Bool, true, false, ◌&&◌}
use Prim.Native.Nat.{ℕ, zero, suc, ◌+◌, ◌-◌, ◌*◌, ◌/◌, ◌%◌, ◌^◌, ◌<◌}
use native.Mathlib.Nat.{pow-suc}
use native.Mathlib.Omega.{arith}
use lib.Dec.{eqb}
use lib.Pow.{pow_pos, mod-pow-add}
use Rattle.std.proofs.Math.Nat.{mod-eq_of_lt, div-eq_of_lt}
use Rattle.netlist.specs.Eval.{differs}
use Rattle.netlist.proofs.Tests.{on_bool}
use Rattle.evaluate.specs.Lane.{lane}
use Rattle.evaluate.proofs.Lanes.{lane-shr, bit-shr}
use Rattle.leak_search.proofs.Numbers.{low-lane, high_lane}
use Rattle.explain.specs.Polynomial.{value, added, coefficients}

-- the value is decided by the first coefficients
pub value-same : (v : ℕ) (c d : ℕ → Bool) (n : ℕ) → ((m : ℕ) → m < 2 ^ v → c m ≡ d m) → value v c n ≡ value v d n
value-same zero c d n h = h 0 (pow_pos 0)
value-same (suc v) c d n h =
    let p = pow-suc 2 v in
    ap₂ (λ (a b : Bool). differs a (lane v n && b)) (value-same v c d n (λ m l. h m (omega arith)))
    (value-same v (λ m. c (2 ^ v + m)) (λ m. d (2 ^ v + m)) n (λ m l. h (2 ^ v + m) (omega arith)))

differs-four : (a b c d : Bool) → differs (differs a b) (differs c d) ≡ differs (differs a c) (differs b d)
differs-four true true true true = refl
differs-four true true true false = refl
differs-four true true false true = refl
differs-four true true false false = refl
differs-four true false true true = refl
differs-four true false true false = refl
differs-four true false false true = refl
differs-four true false false false = refl
differs-four false true true true = refl
differs-four false true true false = refl
differs-four false true false true = refl
differs-four false true false false = refl
differs-four false false true true = refl
differs-four false false true false = refl
differs-four false false false true = refl
differs-four false false false false = refl

and-differs : (a b c : Bool) → (a && differs b c) ≡ differs (a && b) (a && c)
and-differs true b c = refl
and-differs false b c = refl

-- the value of a sum
value-sum : (v : ℕ) (c d : ℕ → Bool) (n : ℕ)
    → value v (λ m. differs (c m) (d m)) n ≡ differs (value v c n) (value v d n)
value-sum zero c d n = refl
value-sum (suc v) c d n =
    let c1 = value v (λ m. c (2 ^ v + m)) n in
    let d1 = value v (λ m. d (2 ^ v + m)) n in
    ap₂ (λ (a b : Bool). differs a (lane v n && b)) (value-sum v c d n)
    (value-sum v (λ m. c (2 ^ v + m)) (λ m. d (2 ^ v + m)) n)
    ∙ ap (differs (differs (value v c n) (value v d n))) (and-differs (lane v n) c1 d1)
    ∙ differs-four (value v c n) (value v d n) (lane v n && c1) (lane v n && d1)

-- bit v of a number in the lower and the upper half of a block of 2^(v + 1)
lower-lane : (v h m : ℕ) → m < 2 ^ v → lane v (h * 2 ^ suc v + m) ≡ false
lower-lane v h m l =
    low-lane (suc v) v h m (omega arith) ∙ lane-shr v m
    ∙ ap (λ (q : ℕ). eqb (q % 2) 1) (div-eq_of_lt l)

upper-lane : (v h m : ℕ) → m < 2 ^ v → lane v (h * 2 ^ suc v + (2 ^ v + m)) ≡ true
upper-lane v h m l =
    let e : 2 ^ v + m ≡ 1 * 2 ^ v + m = omega arith in
    let z : v - v ≡ 0 = omega arith in
    low-lane (suc v) v h (2 ^ v + m) (omega arith) ∙ ap (lane v) e ∙ high_lane v v 1 m l (omega arith)
    ∙ ap (λ (k : ℕ). lane k 1) z

differs-false : (a : Bool) → differs a false ≡ a
differs-false true = refl
differs-false false = refl

differs-back : (a b : Bool) → differs a (differs b a) ≡ b
differs-back true true = refl
differs-back true false = refl
differs-back false true = refl
differs-back false false = refl

-- block h of 2^v coefficients has the value of the function in that block
block-value : (v : ℕ) (f : ℕ → Bool) (h n : ℕ)
    → value v (λ m. coefficients v f (h * 2 ^ v + m)) n ≡ f (h * 2 ^ v + n % 2 ^ v)
block-value zero f h n = let e : h * 1 + 0 ≡ h * 1 + n % 1 = omega arith in ap f e
block-value (suc v) f h n =
    let p = pow-suc 2 v in
    let C = coefficients v f in
    let lo : (m : ℕ) → h * 2 ^ suc v + m ≡ (2 * h) * 2 ^ v + m = λ m. rw p (omega arith) in
    let hi : (m : ℕ) → h * 2 ^ suc v + (2 ^ v + m) ≡ (2 * h + 1) * 2 ^ v + m = λ m. rw p (omega arith) in
    let back : (m : ℕ) → h * 2 ^ suc v + (2 ^ v + m) - 2 ^ v ≡ (2 * h) * 2 ^ v + m = λ m. rw p (omega arith) in
    let first : value v (λ m. added v C (h * 2 ^ suc v + m)) n ≡ f ((2 * h) * 2 ^ v + n % 2 ^ v) =
    value-same v (λ m. added v C (h * 2 ^ suc v + m)) (λ m. C ((2 * h) * 2 ^ v + m)) n
    (λ m l. kept v C (h * 2 ^ suc v + m) (lower-lane v h m l) ∙ ap C (lo m))
    ∙ block-value v f (2 * h) n in
    let next : value v (λ m. added v C (h * 2 ^ suc v + (2 ^ v + m))) n
    ≡ differs (f ((2 * h + 1) * 2 ^ v + n % 2 ^ v)) (f ((2 * h) * 2 ^ v + n % 2 ^ v)) =
    value-same v (λ m. added v C (h * 2 ^ suc v + (2 ^ v + m)))
    (λ m. differs (C ((2 * h + 1) * 2 ^ v + m)) (C ((2 * h) * 2 ^ v + m))) n
    (λ m l. summed v C (h * 2 ^ suc v + (2 ^ v + m)) (upper-lane v h m l) ∙ ap₂ (λ (a b : ℕ). differs (C a) (C b)) (hi m)
    (back m))
    ∙ value-sum v (λ m. C ((2 * h + 1) * 2 ^ v + m)) (λ m. C ((2 * h) * 2 ^ v + m)) n
    ∙ ap₂ differs (block-value v f (2 * h + 1) n) (block-value v f (2 * h) n) in
    ap₂ (λ (a b : Bool). differs a (lane v n && b)) first next ∙ ends
  where
    kept : (v : ℕ) (C : ℕ → Bool) (x : ℕ) → lane v x ≡ false → added v C x ≡ C x
    kept v C x e = rw e (differs-false (C x))

    summed : (v : ℕ) (C : ℕ → Bool) (x : ℕ) → lane v x ≡ true → added v C x ≡ differs (C x) (C (x - 2 ^ v))
    summed v C x e = rw e refl

    parts : n % 2 ^ suc v ≡ n / 2 ^ v % 2 * 2 ^ v + n % 2 ^ v
    parts = let e : 1 + v ≡ suc v = omega arith in ap (λ (k : ℕ). n % 2 ^ k) (sym e) ∙ mod-pow-add n 1 v

    -- the value in both halves, by the bit
    ends : differs (f ((2 * h) * 2 ^ v + n % 2 ^ v)) (lane v n && differs (f ((2 * h + 1) * 2 ^ v + n % 2 ^ v))
        (f ((2 * h) * 2 ^ v + n % 2 ^ v)))
        ≡ f (h * 2 ^ suc v + n % 2 ^ suc v)
    ends =
        let p = pow-suc 2 v in
        let b = bit-shr v n in
        let q = parts in
        on_bool (lane v n)
        (λ e.
        let o : n / 2 ^ v % 2 ≡ 1 = rw e at b in
        let s : n % 2 ^ suc v ≡ 2 ^ v + n % 2 ^ v = q ∙ ap (λ (k : ℕ). k * 2 ^ v + n % 2 ^ v) o ∙ omega arith in
        let t : (2 * h + 1) * 2 ^ v + n % 2 ^ v ≡ h * 2 ^ suc v + n % 2 ^ suc v
        = rw (s, p) (omega arith) in
        rw e (differs-back (f ((2 * h) * 2 ^ v + n % 2 ^ v)) (f ((2 * h + 1) * 2 ^ v + n % 2 ^ v)) ∙ ap f t))
        (λ e.
        let o : n / 2 ^ v % 2 ≡ 0 = rw e at b in
        let s : n % 2 ^ suc v ≡ n % 2 ^ v = q ∙ ap (λ (k : ℕ). k * 2 ^ v + n % 2 ^ v) o ∙ omega arith in
        let t : (2 * h) * 2 ^ v + n % 2 ^ v ≡ h * 2 ^ suc v + n % 2 ^ suc v = rw (s, p) (omega arith) in
        rw e (differs-false (f ((2 * h) * 2 ^ v + n % 2 ^ v)) ∙ ap f t))

-- the polynomial of a function is the function
pub value-coefficients : (v : ℕ) (f : ℕ → Bool) (n : ℕ) → n < 2 ^ v → value v (coefficients v f) n ≡ f n
value-coefficients v f n l =
    let z : (m : ℕ) → m ≡ 0 * 2 ^ v + m = λ m. omega arith in
    value-same v (coefficients v f) (λ m. coefficients v f (0 * 2 ^ v + m)) n (λ m _. ap (coefficients v f) (z m))
    ∙ block-value v f 0 n ∙ ap f (sym (z (n % 2 ^ v)) ∙ mod-eq_of_lt l)
