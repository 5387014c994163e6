-- The table filled entry by entry.
use Prim.Native.Nat.{ℕ, ◌+◌, ◌*◌, ◌/◌, ◌%◌, ◌^◌, ◌≤◌, ◌<◌}
use mathlib.Core.Path.{◌≡◌, sym, ap, ◌∙◌}
use mathlib.Core.List.{List}
use mathlib.Core.Logic.{⊎_elim}
use native.Mathlib.Omega.{arith}
use lib.Dec.{ltb}
use lib.ListN.{length, get_or, set, length-set}
use lib.Seq.{get_or-set_same, get_or-set_other}
use borrow.Author.Tests.{ltb-true, ltb-false}
use Rattle.netlist.proofs.Tests.{on_bool}
use Rattle.writer.specs.Packed.{packed, added, Filled, WordTable, Worded, Tens}
use Rattle.writer.proofs.Packing.{Looks, looks, packed-one, packed-two, packed-three, added-three}

-- one entry of each half more
abbrev grown : List ℕ → ℕ → ℕ → ℕ → List ℕ
grown d k x y = set (set d k x) (1000 + k) y

filled_more : {d : List ℕ} {k x y : ℕ} → Filled d k → k < 1000 → x ≡ packed k → y ≡ added k
    → Filled (grown d k x y) (k + 1)
filled_more {d} {k} {x} {y} f h p q = record { long = long; words = words; more = more }
  where
    long : length (grown d k x y) ≡ 2000
    long = length-set (set d k x) (1000 + k) y ∙ length-set d k x ∙ f.long

    word-last : get_or (grown d k x y) k 0 ≡ x
    word-last =
        get_or-set_other (set d k x) (1000 + k) k y 0 (λ e. omega (arith, e))
        ∙ get_or-set_same d k x 0 (omega (arith, f.long))

    word-other : (i : ℕ) → i < k → get_or (grown d k x y) i 0 ≡ get_or d i 0
    word-other i l =
        get_or-set_other (set d k x) (1000 + k) i y 0 (λ e. omega (arith, e)) ∙ get_or-set_other d k i x 0
        (λ e. omega (arith, e))

    words : (i : ℕ) → i < k + 1 → get_or (grown d k x y) i 0 ≡ packed i
    words i l = on_bool (ltb i k) (λ e. word-other i (ltb-true i k e) ∙ f.words i (ltb-true i k e))
        (λ e. last i l (ltb-false i k e))
      where
        last : (i : ℕ) → i < k + 1 → k ≤ i → get_or (grown d k x y) i 0 ≡ packed i
        last i l m = let z : k ≡ i = omega arith in rw (sym z) (word-last ∙ p)

    more-last : get_or (grown d k x y) (1000 + k) 0 ≡ y
    more-last = get_or-set_same (set d k x) (1000 + k) y 0 (omega (arith, f.long, length-set d k x))

    more-other : (i : ℕ) → i < k → get_or (grown d k x y) (1000 + i) 0 ≡ get_or d (1000 + i) 0
    more-other i l =
        get_or-set_other (set d k x) (1000 + k) (1000 + i) y 0 (λ e. omega (arith, e)) ∙ get_or-set_other d k (1000 + i)
        x 0 (λ e. omega (arith, e))

    more : (i : ℕ) → i < k + 1 → get_or (grown d k x y) (1000 + i) 0 ≡ added i
    more i l = on_bool (ltb i k) (λ e. more-other i (ltb-true i k e) ∙ f.more i (ltb-true i k e))
        (λ e. last i l (ltb-false i k e))
      where
        last : (i : ℕ) → i < k + 1 → k ≤ i → get_or (grown d k x y) (1000 + i) 0 ≡ added i
        last i l m = let z : k ≡ i = omega arith in rw (sym z) (more-last ∙ q)

-- the word of a number below a thousand
pub word_low : {d : List ℕ} (n : ℕ) → WordTable d → Worded (length d) n → n < 1000 → get_or d n 0 ≡ packed n
word_low n t w h = ⊎_elim (λ e. (t.filled e).words n h) (λ l. t.low l n (w.entry h)) w.size

-- what is looked up for a number of four to six digits
pub table-looks : {d : List ℕ} {n : ℕ} → WordTable d → Worded (length d) n → 1000 ≤ n → Looks n (get_or d (n / 1000) 0)
    (get_or d (1000 + n % 1000) 0)
table-looks t w h =
    let f = t.filled (w.thousands h) in
    let small = w.six in
    looks small h (f.words _ (omega arith)) (f.more _ (omega arith))

pub filled-as : {d : List ℕ} {j k : ℕ} → j ≡ k → Filled d j → Filled d k
filled-as e f = rw e at f

-- ---- ten entries

-- the next entries of both halves
pub ten-more : {at word unit more : ℕ} {d : List ℕ} {i : ℕ} → Tens at word unit more → Filled d (at + i) → i < 10
    → Filled (set (set d (at + i) (word + unit * i)) (1000 + at + i) (more + 65536 * i)) (at + (i + 1))
ten-more {at} {word} {unit} {more} {d} {i} t f h =
    let w = t.within in
    let one : at + i + 1 ≡ at + (i + 1) = omega arith in
    let half : 1000 + (at + i) ≡ 1000 + at + i = omega arith in
    let g = filled_more f (omega arith) (t.words i h) (t.adds i h) in
    filled-as one (rw half at g)

-- ---- which ten

-- the digits of a number by its tens and ones
first_of : (t i : ℕ) → i < 10 → (10 * t + i) / 100 ≡ t / 10
first_of t i h = omega arith

second-of : (t i : ℕ) → i < 10 → (10 * t + i) / 10 % 10 ≡ t % 10
second-of t i h = let e : (10 * t + i) / 10 ≡ t = omega arith in ap (λ (x : ℕ). x % 10) e

last_of : (t i : ℕ) → i < 10 → (10 * t + i) % 10 ≡ i
last_of t i h = omega arith

-- three digits, and a number more
abbrev three : ℕ → ℕ → ℕ → ℕ → ℕ
three a b c k = k + a + (48 + b) * 256 + (48 + c) * 65536 + 536870912

three-ten : (t i k : ℕ) → i < 10 → three ((10 * t + i) / 100) ((10 * t + i) / 10 % 10) ((10 * t + i) % 10) k
    ≡ three (t / 10) (t % 10) i k
three-ten t i k h = λ j. three (first_of t i h j) (second-of t i h j) (last_of t i h j) k

-- two digits and a 0 in front of a space, without the 48 of the first
abbrev digits : ℕ → ℕ → ℕ
digits a b = a + (48 + b) * 256 + 3145728 + 536870912

abbrev pub high : ℕ → ℕ
high t = digits (t / 10) (t % 10)

three-sum : (a b i k : ℕ) → three a b i k ≡ k + digits a b + 65536 * i
three-sum a b i k = omega arith

adds-ten : (t i : ℕ) → t < 100 → i < 10 → 16 + high t + 65536 * i ≡ added (10 * t + i)
adds-ten t i h l = sym (added-three (10 * t + i) (omega arith) ∙ three-ten t i 16 l ∙ three-sum (t / 10) (t % 10) i 16)

words-ten : (t i : ℕ) → 10 ≤ t → t < 100 → i < 10
    → 48 + high t + 4 * 2 ^ 56 + 65536 * i ≡ packed (10 * t + i)
words-ten t i p h l =
    let e = three-sum (t / 10) (t % 10) i 48 in
    sym
    (packed-three (10 * t + i) (omega arith) (omega arith) ∙ ap (λ (x : ℕ). x + 4 * 2 ^ 56) (three-ten t i 48 l ∙ e)
    ∙ last (t / 10) (t % 10))
  where
    last : (a b : ℕ) → 48 + digits a b + 65536 * i + 4 * 2 ^ 56 ≡ 48 + digits a b + 4 * 2 ^ 56 + 65536 * i
    last a b = omega arith

pub tens-none : (t : ℕ) → t ≡ 0 → Tens (10 * t) (48 + 8192 + 2 * 2 ^ 56) 1 (16 + high t)
tens-none t z = record {
  within = omega arith;
  words = λ i l. sym (packed-one (10 * t + i) (omega arith) ∙ omega arith);
  adds = λ i l. adds-ten t i (omega arith) l;
  small = omega arith;
}

pub tens-two : (t : ℕ) → 0 < t → t < 10
    → Tens (10 * t) (48 + t + 12288 + 2097152 + 3 * 2 ^ 56) 256 (16 + high t)
tens-two t p h = record {
  within = omega arith;
  words = λ i l. sym (packed-two (10 * t + i) (omega arith) (omega arith) ∙ omega arith);
  adds = λ i l. adds-ten t i (omega arith) l;
  small = omega arith;
}

pub tens-three : (t : ℕ) → 10 ≤ t → t < 100
    → Tens (10 * t) (48 + high t + 4 * 2 ^ 56) 65536
    (16 + high t)
tens-three t p h = record {
  within = omega arith;
  words = λ i l. words-ten t i p h l;
  adds = λ i l. adds-ten t i h l;
  small = omega arith;
}
