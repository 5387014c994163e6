-- Laws of bits under the mask of a code, one at a time and as the lists that go into and come out of a masked netlist.
use Prim.Native.Nat.{ℕ, zero, suc, ◌+◌, ◌<◌}
use mathlib.Core.Path.{◌≡◌, refl, ◌∙◌}
use mathlib.Core.Bool.{Bool, true, false, not, ◌&&◌, ◌||◌}
use mathlib.Core.List.{List, [], ◌∷◌}
use native.Mathlib.Omega.{arith}
use lib.Dec.{T, eqb, eqb→eq}
use lib.ListN.{length, get_or}
use Rattle.netlist.specs.Eval.{differs}
use Rattle.masking.specs.Mask.{is_code, third}
use Rattle.masking.specs.Leak.{mask_of, masked, count_of}
use Rattle.masking.specs.Unmask.{unmasked}
use Rattle.netlist.proofs.EachNumber.{every_bit, every_bit-at, every4-at, same, same-eq}
use Rattle.masking.proofs.CodeLaws.{every_code-at, every_two-at, third-code, third-other, third_back}

-- a bit of no mask is the bit, and a mask put on twice is none
pub differs_false : (s : Bool) → differs s false ≡ s
differs_false true = refl
differs_false false = refl

pub unmask : (s m : Bool) → differs (differs s m) m ≡ s
unmask true true = refl
unmask true false = refl
unmask false true = refl
unmask false false = refl

pub not-differs : (s m : Bool) → not (differs s m) ≡ differs (not s) m
not-differs true true = refl
not-differs true false = refl
not-differs false m = refl

-- the XOR of two masked bits is the XOR of the bits under the XOR of the masks
differs-swap : (s p t q : Bool) → differs (differs s p) (differs t q) ≡ differs (differs s t) (differs p q)
differs-swap s p t q =
    same-eq _ _ (every4-at (λ s p t q. same (differs (differs s p) (differs t q)) (differs (differs s t) (differs p q)))
    tt s p t q)

-- the OR of the masks, as the three gates make it
pub or-law : (p q : Bool) → differs (differs p q) (p && q) ≡ p || q
or-law true true = refl
or-law true false = refl
or-law false q = differs_false q

-- the sum of two different codes' masks is the mask of the third code
sum_test : ℕ → ℕ → Bool → Bool → Bool
sum_test e f m0 m1 = same (differs (mask_of m0 m1 e) (mask_of m0 m1 f)) (mask_of m0 m1 (third e f))

pub mask-sum : (e f : ℕ) → T (is_code e) → T (is_code f) → T (not (eqb e f)) → (m0 m1 : Bool)
    → differs (mask_of m0 m1 e) (mask_of m0 m1 f) ≡ mask_of m0 m1 (third e f)
unfolding sum_test
mask-sum e f c d n m0 m1 =
    let te = every_two-at (λ e f. every_bit λ m0. every_bit λ m1. sum_test e f m0 m1) tt e f c d n in
    let tm = every_bit-at (λ m0. every_bit λ m1. sum_test e f m0 m1) te m0 in
    same-eq _ _ (every_bit-at (sum_test e f m0) tm m1)

-- bits under different codes: their XOR is under the third
pub xor-law : (e f : ℕ) → T (is_code e) → T (is_code f) → T (not (eqb e f)) → (s t m0 m1 : Bool)
    → differs (differs s (mask_of m0 m1 e)) (differs t (mask_of m0 m1 f))
    ≡ differs (differs s t) (mask_of m0 m1 (third e f))
xor-law e f c d n s t m0 m1 = differs-swap s (mask_of m0 m1 e) t (mask_of m0 m1 f) ∙ rw (mask-sum e f c d n m0 m1) refl

-- a mask change: with another code's mask added, a bit is under the third
pub change-law : (e f : ℕ) → T (is_code e) → T (is_code f) → T (not (eqb e f)) → (s m0 m1 : Bool)
    → differs (differs s (mask_of m0 m1 e)) (mask_of m0 m1 f) ≡ differs s (mask_of m0 m1 (third e f))
change-law e f c d n s m0 m1 = xor-law e f c d n s false m0 m1 ∙ rw differs_false refl

-- a mask change to a wanted code
pub wanted-law : (e f : ℕ) → T (is_code e) → T (is_code f) → T (not (eqb e f)) → (s m0 m1 : Bool)
    → differs (differs s (mask_of m0 m1 e)) (mask_of m0 m1 (third e f)) ≡ differs s (mask_of m0 m1 f)
wanted-law e f c d n s m0 m1 = change-law e (third e f) c (third-code e f c d n) (third-other e f c d n) s m0 m1
    ∙ rw (third_back e f c d n) refl

-- equal bits have equal counts
pub count_of-same : (f g : Bool → Bool → Bool) → ((m0 m1 : Bool) → f m0 m1 ≡ g m0 m1) → count_of f ≡ count_of g
count_of-same f g h = cc (h false false, h true false, h false true, h true true)

-- a masked bit is one under two of the four mask settings
carried_test : ℕ → Bool → Bool
carried_test e s = eqb (count_of (λ m0 m1. differs s (mask_of m0 m1 e))) 2

pub carried-count : (e : ℕ) → T (is_code e) → (s : Bool) → count_of (λ m0 m1. differs s (mask_of m0 m1 e)) ≡ 2
unfolding carried_test
carried-count e c s = eqb→eq _ _ (every_bit-at (carried_test e) (every_code-at (λ e. every_bit (carried_test e)) tt e c)
    s)

-- the masked input wires: each bit under its code, then the mask pair
pub length-masked : (m0 m1 : Bool) (es : List ℕ) (x : List Bool) → length (masked m0 m1 es x) ≡ length es + 2
length-masked m0 m1 [] x = refl
length-masked m0 m1 (e ∷ es) [] = let h = length-masked m0 m1 es [] in omega arith
length-masked m0 m1 (e ∷ es) (b ∷ x) = let h = length-masked m0 m1 es x in omega arith

pub masked-at : (m0 m1 : Bool) (es : List ℕ) (x : List Bool) → length x ≡ length es → (w : ℕ) → w < length es
    → get_or (masked m0 m1 es x) w false ≡ differs (get_or x w false) (mask_of m0 m1 (get_or es w 0))
masked-at m0 m1 [] x l w h = absurd (omega arith)
masked-at m0 m1 (e ∷ es) [] l w h = absurd (omega arith)
masked-at m0 m1 (e ∷ es) (b ∷ x) l zero h = refl
masked-at m0 m1 (e ∷ es) (b ∷ x) l (suc w) h = masked-at m0 m1 es x (omega arith) w (omega arith)

pub masked-pair : (m0 m1 : Bool) (es : List ℕ) (x : List Bool) (k w : ℕ) → w ≡ length es + k
    → get_or (masked m0 m1 es x) w false ≡ get_or (m0 ∷ m1 ∷ []) k false
masked-pair m0 m1 [] x k w e = let z : w ≡ k = omega arith in rw z refl
masked-pair m0 m1 (e ∷ es) [] k zero z = absurd (omega arith)
masked-pair m0 m1 (e ∷ es) (b ∷ x) k zero z = absurd (omega arith)
masked-pair m0 m1 (e ∷ es) [] k (suc w) z = masked-pair m0 m1 es [] k w (omega arith)
masked-pair m0 m1 (e ∷ es) (b ∷ x) k (suc w) z = masked-pair m0 m1 es x k w (omega arith)

-- unmasked bits are the bits that were masked
pub unmasked-are : (m0 m1 : Bool) (es : List ℕ) (bits ys : List Bool) → length bits ≡ length es → length ys ≡ length es
    → ((i : ℕ) → i < length es → get_or bits i false ≡ differs (get_or ys i false) (mask_of m0 m1 (get_or es i 0)))
    → unmasked m0 m1 es bits ≡ ys
unmasked-are m0 m1 [] bits [] k l h = refl
unmasked-are m0 m1 [] bits (y ∷ ys) k l h = absurd (omega arith)
unmasked-are m0 m1 (e ∷ es) [] ys k l h = absurd (omega arith)
unmasked-are m0 m1 (e ∷ es) (b ∷ bits) [] k l h = absurd (omega arith)
unmasked-are m0 m1 (e ∷ es) (b ∷ bits) (y ∷ ys) k l h =
    let p : b ≡ differs y (mask_of m0 m1 e) = h 0 (omega arith) in
    let q : unmasked m0 m1 es bits ≡ ys = unmasked-are m0 m1 es bits ys (omega arith) (omega arith)
    (λ i b. h (suc i) (omega arith)) in
    rw (p, q, unmask y (mask_of m0 m1 e)) refl
