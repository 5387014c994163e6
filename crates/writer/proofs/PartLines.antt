-- A gate line: its front, the gate's name and LF; how long it is.
use Prim.Native.Nat.{ℕ, ◌+◌, ◌/◌, ◌%◌, ◌≤◌, ◌<◌}
use mathlib.Core.Path.{◌≡◌, refl, sym, ap, ◌∙◌}
use mathlib.Core.List.{List, [], ◌∷◌, ◌++◌, append_assoc, append-nil}
use mathlib.Core.Logic.{inl, inr}
use native.Mathlib.Omega.{arith}
use native.Mathlib.Numerals.{add-one}
use lib.ListN.{length, get_or, take, length-append}
use lib.Seq.{take-suc, take_all}
use Rattle.netlist.specs.Text.{space, lf}
use Rattle.netlist.specs.Number.{decimal}
use Rattle.netlist.specs.GateLine.{eq_bytes}
use Rattle.netlist.specs.Write.{line, one}
use Rattle.writer.specs.Wrote.{Wrote, top, cap}
use Rattle.writer.proofs.Decimals.{decimal-one, decimal-two}
use Rattle.writer.specs.Packed.{Worded}
use Rattle.writer.specs.Parts.{parted, spaced, head_of, front_of, line_of}
use Rattle.writer.proofs.Writing.{wrote-out}

spaced-append : (u v : List ℕ) → spaced (u ++ v) ≡ spaced u ++ spaced v
spaced-append [] v = refl
spaced-append (n ∷ u) v =
    ap (λ (w : List ℕ). parted (decimal n) ++ w) (spaced-append u v)
    ∙ sym (append_assoc (parted (decimal n)) (spaced u) (spaced v))

-- one number more of some
pub spaced-more : (h os : List ℕ) (i : ℕ) → i < length os → (h ++ spaced (take i os))
    ++ parted (decimal (get_or os i 0)) ≡ h ++ spaced (take (i + 1) os)
spaced-more h os i l =
    let n : ℕ = get_or os i 0 in
    append_assoc h (spaced (take i os)) (parted (decimal n))
    ∙ ap (λ (v : List ℕ). h ++ (spaced (take i os) ++ v)) (sym (append-nil (parted (decimal n))))
    ∙ ap (λ (v : List ℕ). h ++ v) (sym (spaced-append (take i os) (n ∷ [])))
    ∙ ap (λ (v : List ℕ). h ++ spaced v) (rw (add-one, take-suc os i 0))

-- all of some numbers
pub whole-front : {n i : ℕ} (os : List ℕ) (c : ℕ) → n ≡ length os → length os ≤ i → (head_of n ++ spaced (take i os))
    ++ parted (decimal c) ≡ front_of os c
whole-front {i = i} os c p h = λ j. (head_of (p j) ++ spaced (take_all i os h j)) ++ parted (decimal c)

pub line_eq : (v c : ℕ) → (parted one ++ parted one) ++ (parted (decimal v)
    ++ (decimal c ++ (space ∷ (eq_bytes ++ (lf ∷ []))))) ≡ line
    (one ∷ one ∷ decimal v ∷ decimal c ∷ eq_bytes ∷ [])
line_eq v c = simp append_assoc

-- a line of which nothing fits
pub line-beyond : {e : List ℕ} {at r : ℕ} (os : List ℕ) (c : ℕ) (name : List ℕ) → length e ≤ top → length e ≤ at
    → length name ≡ 4
    → r ≡ cap (at + (4 + length (front_of os c))) → Wrote e at (line_of os c name) e r
line-beyond {at = at} os c name h k l p =
    let n : 4 + length (front_of os c) ≡ length (line_of os c name) = simp length-append (omega (arith, l)) in
    wrote-out _ h k (p ∙ ap (λ (m : ℕ). cap (at + m)) n)

-- numbers that have words
pub worded-whole : {k n : ℕ} → k ≡ 2000 → n < 1000000 → Worded k n
worded-whole e h = record { six = h; entry = λ l. omega arith; thousands = λ l. e; size = inl e }

pub worded-low : {k n : ℕ} → k ≤ 1000 → n < k → Worded k n
worded-low e h = record { six = omega arith; entry = λ l. h; thousands = λ l. absurd (omega arith); size = inr e }

-- a number of one digit, and of two
pub low-one : (n : ℕ) → n < 10 → (48 + n) ∷ (space ∷ []) ≡ parted (decimal n)
low-one n h = sym (ap parted (decimal-one n h))

pub low-two : (n : ℕ) → 10 ≤ n → n < 100 → ((48 + n / 10) ∷ ((48 + n % 10) ∷ [])) ++ (space ∷ []) ≡ parted (decimal n)
low-two n h l =
    let e : n / 10 % 10 ≡ n / 10 = omega arith in
    sym (ap parted (decimal-two n h l ∙ ap (λ (x : ℕ). (48 + x) ∷ ((48 + n % 10) ∷ [])) e))
