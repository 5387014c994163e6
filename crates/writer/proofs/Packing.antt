-- The word of a number by its digits.
use Prim.Native.Nat.{ℕ, zero, suc, ◌+◌, ◌-◌, ◌*◌, ◌/◌, ◌%◌, ◌^◌, ◌≤◌, ◌<◌}
use mathlib.Core.Path.{◌≡◌, refl, sym, ap, ◌∙◌}
use mathlib.Core.List.{List, [], ◌∷◌, ◌++◌, append_assoc}
use native.Mathlib.Nat.{lt_of_lt_of_le, mul_assoc, mul_comm, mul-add}
use native.Mathlib.Omega.{arith}
use lib.Dec.{leb, lit<, lit≤}
use borrow.Author.Tests.{leb-true}
use lib.Pow.{pow-add, pow_mono, shl_exact}
use lib.ListN.{length, length-append}
use Rattle.netlist.specs.Text.{space}
use Rattle.netlist.specs.Number.{decimal}
use Rattle.netlist.proofs.Tests.{All, empty, each, all_append, both_true}
use Rattle.netlist.proofs.Decimal.{Digit, decimal-of, decimal-digits, decimal-filled}
use Rattle.writer.proofs.Decimals.{decimal-one, decimal-two, decimal-three, decimal-last, digits-most, digits-high}
use Rattle.writer.specs.Packed.{joined, bytes_of, text, packed, last_three, added}

-- the digits before the last three, and the last three
decimal-thousands : (n : ℕ) → n < 2 ^ 64 → 1000 ≤ n → decimal n ≡ decimal (n / 1000) ++ last_three n
decimal-thousands n l h =
    let a : n / 10 / 10 ≡ n / 100 = omega arith in
    let b : n / 100 / 10 ≡ n / 1000 = omega arith in
    decimal-last n l (omega arith)
    ∙ ap (λ (v : List ℕ). v ++ ((48 + n % 10) ∷ [])) (decimal-last (n / 10) (omega arith) (omega arith))
    ∙ append_assoc (decimal (n / 10 / 10)) ((48 + n / 10 % 10) ∷ []) ((48 + n % 10) ∷ [])
    ∙ ap (λ (q : ℕ). decimal q ++ ((48 + n / 10 % 10) ∷ (48 + n % 10) ∷ [])) a
    ∙ ap (λ (v : List ℕ). v ++ ((48 + n / 10 % 10) ∷ (48 + n % 10) ∷ []))
    (decimal-last (n / 100) (omega arith) (omega arith))
    ∙ append_assoc (decimal (n / 100 / 10)) ((48 + n / 100 % 10) ∷ []) ((48 + n / 10 % 10) ∷ (48 + n % 10) ∷ [])
    ∙ ap (λ (q : ℕ). decimal q ++ last_three n) b

-- eight bits more
pub byte_more : (k : ℕ) → 2 ^ (8 * suc k) ≡ 256 * 2 ^ (8 * k)
byte_more k = let e : 8 * suc k ≡ 8 + 8 * k = omega arith in ap (λ (m : ℕ). 2 ^ m) e ∙ pow-add 2 8 (8 * k)

abbrev Byte : ℕ → Type 0
Byte b = b < 256

digit-byte : (b : ℕ) → Digit b → Byte b
digit-byte b h = let k : b ≤ 57 = leb-true b 57 (both_true (leb 48 b) (leb b 57) h).1 in omega arith

digits-bytes : {w : List ℕ} → All Digit w → All Byte w
digits-bytes empty = empty
digits-bytes (each {x = b} h hs) = each (digit-byte b h) (digits-bytes hs)

-- two byte strings joined one after the other
joined-append : (u v : List ℕ) → joined (u ++ v) ≡ joined u + 2 ^ (8 * length u) * joined v
joined-append [] v = omega arith
joined-append (b ∷ u) v =
    let e : 256 * 2 ^ (8 * length u) * joined v ≡ 256 * (2 ^ (8 * length u) * joined v)
    = mul_assoc 256 (2 ^ (8 * length u)) (joined v) in
    rw (joined-append u v, byte_more (length u)) (omega (arith, e))

-- the bytes of bytes joined, and of a number after them
bytes-joined : (u : List ℕ) (j k m : ℕ) → All Byte u → j ≡ length u + k → bytes_of j (joined u + 2 ^ (8 * length u) * m)
    ≡ u ++ bytes_of k m
bytes-joined [] j k m empty q =
    let e : 0 + 2 ^ 0 * m ≡ m = omega arith in
    let f : j ≡ k = omega arith in
    λ i. bytes_of (f i) (e i)
bytes-joined (b ∷ u) zero k m (each h hs) q = absurd (omega arith)
bytes-joined (b ∷ u) (suc j) k m (each h hs) q =
    let n : ℕ = joined u + 2 ^ (8 * length u) * m in
    let e : 256 * 2 ^ (8 * length u) * m ≡ 256 * (2 ^ (8 * length u) * m) = mul_assoc 256 (2 ^ (8 * length u)) m in
    let w : b + 256 * joined u + 2 ^ (8 * suc (length u)) * m ≡ b + 256 * n
    = rw (byte_more (length u)) (omega (arith, e)) in
    let low : (b + 256 * n) % 256 ≡ b = omega arith in
    let high : (b + 256 * n) / 256 ≡ n = omega arith in
    ap (λ (x : ℕ). (x % 256) ∷ bytes_of j (x / 256)) w
    ∙ (λ i. low i ∷ bytes_of j (high i))
    ∙ ap (λ (l : List ℕ). b ∷ l) (bytes-joined u j k m hs (omega arith))

pub length-bytes : (k w : ℕ) → length (bytes_of k w) ≡ k
length-bytes zero w = refl
length-bytes (suc k) w = ap suc (length-bytes k (w / 256))

-- ---- how long a text is

fits : {n : ℕ} → n < 1000000 → n < 10 ^ 20
fits h = lt_of_lt_of_le h (lit≤ tt)

pub text-length : (n : ℕ) → length (text n) ≡ length (decimal n) + 1
text-length n = simp length-append

pub text-most : (n : ℕ) → n < 1000000 → length (text n) ≤ 7
text-most n h = omega (arith, text-length n, digits-most 6 n (omega arith) (lit< tt) (omega arith))

pub text-least : (n : ℕ) → n < 1000000 → 2 ≤ length (text n)
text-least n h = omega (arith, text-length n, decimal-filled (decimal-of (fits h)))

quotient : (n : ℕ) → n < 1000000 → n / 10 ^ 2 < 1000000
quotient n h = omega arith

pub text-long : (n : ℕ) → 100 ≤ n → n < 1000000 → 4 ≤ length (text n)
text-long n h l = omega (
  arith,
  text-length n,
  digits-high 2 n (omega arith) h,
  decimal-filled
      (decimal-of (fits (quotient n l))),
)

text-bytes : (n : ℕ) → n < 1000000 → All Byte (text n)
text-bytes n h = all_append (digits-bytes (decimal-digits (decimal-of (fits h)))) (each (lit< tt) empty)

-- ---- the word of a number

-- its bytes are the text, and others after it
unfoldable pub spare : ℕ → List ℕ
spare n = bytes_of (8 - length (text n)) (length (text n) * 2 ^ (56 - 8 * length (text n)))

pub packed-bytes : (n : ℕ) → n < 1000000 → bytes_of 8 (packed n) ≡ text n ++ spare n
unfolding packed spare
packed-bytes n h =
    let k : ℕ = length (text n) in
    let l : k ≤ 7 = text-most n h in
    let e : 56 ≡ 8 * k + (56 - 8 * k) = omega arith in
    let p : 2 ^ 56 ≡ 2 ^ (8 * k) * 2 ^ (56 - 8 * k) = ap (λ (m : ℕ). 2 ^ m) e ∙ pow-add 2 (8 * k) (56 - 8 * k) in
    let s : k * (2 ^ (8 * k) * 2 ^ (56 - 8 * k)) ≡ 2 ^ (8 * k) * (k * 2 ^ (56 - 8 * k))
    = sym (mul_assoc k (2 ^ (8 * k)) (2 ^ (56 - 8 * k))) ∙ ap (λ (m : ℕ). m * 2 ^ (56 - 8 * k))
    (mul_comm k (2 ^ (8 * k))) ∙ mul_assoc (2 ^ (8 * k)) k
    (2 ^ (56 - 8 * k)) in
    ap (λ (m : ℕ). bytes_of 8 (joined (text n) + m)) (ap (λ (m : ℕ). k * m) p ∙ s)
    ∙ bytes-joined (text n) 8 (8 - k) (k * 2 ^ (56 - 8 * k)) (text-bytes n h) (omega arith)

joined-lt : {u : List ℕ} → All Byte u → joined u < 2 ^ (8 * length u)
joined-lt empty = lit< tt
joined-lt (each {x = b} {xs = u} h hs) = let l = joined-lt hs in rw (byte_more (length u)) (omega arith)

-- its text lies below the top byte
text-lt : (n : ℕ) → n < 1000000 → joined (text n) < 2 ^ 56
text-lt n h = lt_of_lt_of_le (joined-lt (text-bytes n h)) (pow_mono {j = 56} (omega (arith, text-most n h)))

-- its top byte, and the whole
pub packed-top : (n : ℕ) → n < 1000000 → packed n / 72057594037927936 ≡ length (text n)
unfolding packed
packed-top n h = let l = text-lt n h in omega arith

pub packed_lt : (n : ℕ) → n < 1000000 → packed n < 2 ^ 59
unfolding packed
packed_lt n h = let l = text-lt n h in let m = text-most n h in omega arith

-- ---- three digits more

last_three-rest : (n : ℕ) → last_three (n % 1000) ≡ last_three n
last_three-rest n =
    let a : n % 1000 / 100 % 10 ≡ n / 100 % 10 = omega arith in
    let b : n % 1000 / 10 % 10 ≡ n / 10 % 10 = omega arith in
    let c : n % 1000 % 10 ≡ n % 10 = omega arith in
    λ i. (48 + a i) ∷ (48 + b i) ∷ (48 + c i) ∷ []

abbrev three : ℕ → ℕ
three n = joined (last_three n ++ (space ∷ []))

added_of : (n : ℕ) → three n ≡ added n + 32
unfolding added
added_of n = omega arith

pub added-lt : (n : ℕ) → added n < 2 ^ 30
unfolding added
added-lt n = omega arith

text-more : (n : ℕ) → n < 1000000 → 1000 ≤ n → text n ≡ decimal (n / 1000) ++ (last_three (n % 1000) ++ (space ∷ []))
text-more n l h =
    ap (λ (v : List ℕ). v ++ (space ∷ [])) (decimal-thousands n (omega arith) h
    ∙ ap (λ (v : List ℕ). decimal (n / 1000) ++ v) (sym (last_three-rest n)))
    ∙ append_assoc (decimal (n / 1000)) (last_three (n % 1000)) (space ∷ [])

packed_more : (n : ℕ) → n < 1000000 → 1000 ≤ n
    → packed n ≡ packed (n / 1000) + added (n % 1000) * 2 ^ (8 * length (decimal (n / 1000))) + 3 * 2 ^ 56
unfolding packed
packed_more n l h =
    let hi : List ℕ = decimal (n / 1000) in
    let p : ℕ = 2 ^ (8 * length hi) in
    let m : ℕ = n % 1000 in
    let whole : joined (text n) ≡ joined hi + p * three m = ap joined (text-more n l h)
    ∙ joined-append hi (last_three m ++ (space ∷ [])) in
    let front : joined (text (n / 1000)) ≡ joined hi + p * 32 = joined-append hi (space ∷ []) in
    let parts : p * three m ≡ p * added m + p * 32 = ap (λ (x : ℕ). p * x) (added_of m) ∙ mul-add p (added m) 32 in
    let turn : p * added m ≡ added m * p = mul_comm p (added m) in
    let size : length (text n) ≡ length hi + 4 = ap length (text-more n l h) ∙ simp length-append in
    let short : length (text (n / 1000)) ≡ length hi + 1 = text-length (n / 1000) in
    omega (arith, whole, front, parts, turn, size, short)

-- what is looked up for n, of four to six digits
pub record Looks (n w a : ℕ) : Type 0 where
  pub some : 1 ≤ w / 72057594037927936
  pub few : w / 72057594037927936 ≤ 4
  pub sum : w + (a * 2 ^ (8 * (w / 72057594037927936 - 1))) % 2 ^ 64 + 3 * 72057594037927936 ≡ packed n

pub looks : {n w a : ℕ} → n < 1000000 → 1000 ≤ n → w ≡ packed (n / 1000) → a ≡ added (n % 1000) → Looks n w a
looks {n} {w} {a} l h p q =
    let hi : ℕ = n / 1000 in
    let top : w / 72057594037927936 ≡ length (decimal hi) + 1
    = ap (λ (x : ℕ). x / 72057594037927936) p ∙ packed-top hi (omega arith) ∙ text-length hi in
    let most : length (decimal hi) ≤ 3 = digits-most 3 hi (omega arith) (lit< tt) (omega arith) in
    let d : w / 72057594037927936 - 1 ≡ length (decimal hi) = omega arith in
    let shift : (added (n % 1000) * 2 ^ (8 * length (decimal hi))) % 2 ^ 64
    ≡ added (n % 1000) * 2 ^ (8 * length (decimal hi))
    = shl_exact 30 (8 * length (decimal hi)) 64 (added-lt (n % 1000)) (omega arith) in
    record {
      some = omega arith;
      few = omega arith;
      sum =
          (λ i. p i + (q i * 2 ^ (8 * d i)) % 2 ^ 64 + 3 * 72057594037927936)
          ∙ ap (λ (x : ℕ). packed hi + x + 3 * 72057594037927936) shift ∙ sym (packed_more n l h);
    }

-- ---- up to three digits

abbrev word : List ℕ → ℕ
word v = joined (v ++ (space ∷ [])) + length (v ++ (space ∷ [])) * 2 ^ 56

pub packed-one : (n : ℕ) → n < 10 → packed n ≡ 48 + n + 8192 + 2 * 2 ^ 56
unfolding packed
packed-one n h = ap word (decimal-one n h) ∙ omega arith

pub packed-two : (n : ℕ) → 10 ≤ n → n < 100 → packed n ≡ 48 + n / 10 + (48 + n % 10) * 256 + 2097152 + 3 * 2 ^ 56
unfolding packed
packed-two n h l = ap word (decimal-two n h l) ∙ omega arith

pub packed-three : (n : ℕ) → 100 ≤ n → n < 1000
    → packed n ≡ 48 + n / 100 + (48 + n / 10 % 10) * 256 + (48 + n % 10) * 65536 + 536870912 + 4 * 2 ^ 56
unfolding packed
packed-three n h l = ap word (decimal-three n h l) ∙ omega arith

pub added-three : (n : ℕ) → n < 1000 → added n ≡ 16 + n / 100 + (48 + n / 10 % 10) * 256 + (48 + n % 10) * 65536 +
    536870912
unfolding added
added-three n h = omega arith
