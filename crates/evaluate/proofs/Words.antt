-- A word by its lanes, and the output words of sixty-four runs.
use mathlib.Core.Path.{◌≡◌, refl, sym, ap, ap₂, ◌∙◌}
use mathlib.Core.Bool.{Bool, true, false}
use mathlib.Core.List.{List}
use Prim.Native.Nat.{ℕ, zero, suc, ◌+◌, ◌*◌, ◌/◌, ◌%◌, ◌^◌, ◌<◌}
use native.Mathlib.Nat.{pow-suc, mod-eq_of_lt}
use native.Mathlib.Omega.{arith}
use lib.Dec.{eqb}
use lib.Arith.{mod-mul}
use lib.Pow.{pow_pos}
use lib.ListN.{length, get_or, length-map, get_or-map}
use lib.Seq.{ext_get_or}
use Rattle.netlist.specs.Netlist.{Netlist, output_bits}
use Rattle.netlist.specs.Eval.{outputs_of, bit}
use Rattle.evaluate.specs.Lane.{lane, lanes, word, up_to, output_words}
use Rattle.evaluate.proofs.Lanes.{lane-zero}

bit-two : (w : ℕ) → bit (lane 0 w) ≡ w % 2
bit-two w = go (w % 2) (omega arith)
  where
    go : (r : ℕ) → r < 2 → bit (eqb r 1) ≡ r
    go zero h = refl
    go (suc zero) h = refl
    go (suc (suc r)) h = absurd (omega arith)

-- the word of a number's lanes
pub word_lanes : (k w : ℕ) → word k (λ j. lane j w) ≡ w % 2 ^ k
word_lanes zero w = omega arith
word_lanes (suc k) w =
    let h = word_lanes k (w / 2) in
    let b = bit-two w in
    let m : w % (2 ^ k * 2) ≡ (w / 2 % 2 ^ k) * 2 + w % 2 = mod-mul w (pow_pos k) (omega arith) in
    let p = pow-suc 2 k in
    rw p (omega (arith, h, b, m))

pub word_same : (k : ℕ) (f g : ℕ → Bool) → ((j : ℕ) → j < k → f j ≡ g j) → word k f ≡ word k g
word_same zero f g h = refl
word_same (suc k) f g h =
    ap₂ (λ (b : Bool) (w : ℕ). bit b + 2 * w) (h 0 (omega arith))
    (word_same k (λ j. f (suc j)) (λ j. g (suc j)) (λ j l. h (suc j) (omega arith)))

-- a word of 64 bits is known by its lanes
pub word-known : (w : ℕ) (f : ℕ → Bool) → w < 2 ^ 64 → ((j : ℕ) → j < 64 → lane j w ≡ f j) → w ≡ word 64 f
word-known w f fits h = sym (mod-eq_of_lt fits) ∙ sym (word_lanes 64 w) ∙ word_same 64 (λ j. lane j w) f h

-- the lanes of a word
bit-low : (b : Bool) (w : ℕ) → lane 0 (bit b + 2 * w) ≡ b
bit-low true w = let e : (1 + 2 * w) % 2 ≡ 1 = omega arith in rw e
bit-low false w = let e : (0 + 2 * w) % 2 ≡ 0 = omega arith in rw e

bit_high : (b : Bool) (w : ℕ) → (bit b + 2 * w) / 2 ≡ w
bit_high true w = omega arith
bit_high false w = omega arith

pub lane_word : (k : ℕ) (f : ℕ → Bool) (j : ℕ) → j < k → lane j (word k f) ≡ f j
lane_word zero f j h = absurd (omega arith)
lane_word (suc k) f zero h = bit-low (f 0) (word k (λ j. f (suc j)))
lane_word (suc k) f (suc j) h = ap (lane j) (bit_high (f 0) (word k (λ j. f (suc j)))) ∙ lane_word k (λ j. f (suc j)) j
    (omega arith)

length-up_to : (n : ℕ) (f : ℕ → ℕ) → length (up_to n f) ≡ n
length-up_to zero f = refl
length-up_to (suc n) f = ap suc (length-up_to n (λ i. f (suc i)))

up_to-at : (n : ℕ) (f : ℕ → ℕ) (i : ℕ) → i < n → get_or (up_to n f) i 0 ≡ f i
up_to-at zero f i h = absurd (omega arith)
up_to-at (suc n) f zero h = refl
up_to-at (suc n) f (suc i) h = up_to-at n (λ i. f (suc i)) i (omega arith)

-- lane j of the i-th of some words
lanes_at : (j : ℕ) (ws : List ℕ) (i : ℕ) → get_or (lanes j ws) i false ≡ lane j (get_or ws i 0)
lanes_at j ws i = rw (← lane-zero j) (get_or-map (lane j) ws i 0)

-- words whose lanes are those of the runs are the output words
pub words-known : (N : Netlist) (list ws : List ℕ) → length ws ≡ output_bits N
    → ((i : ℕ) → i < length ws → get_or ws i 0 < 2 ^ 64)
    → ((j : ℕ) → j < 64 → lanes j ws ≡ outputs_of N (lanes j list)) → ws ≡ output_words N list
unfolding output_words
words-known N list ws long fits each =
    let f : ℕ → ℕ = λ i. word 64 λ j. get_or (outputs_of N (lanes j list)) i false in
    ext_get_or 0 ws (up_to (output_bits N) f) (long ∙ sym (length-up_to (output_bits N) f))
    (λ i h. word-known (get_or ws i 0) (λ j. get_or (outputs_of N (lanes j list)) i false) (fits i h)
    (λ j l. sym (lanes_at j ws i) ∙ ap (λ (v : List Bool). get_or v i false) (each j l))
    ∙ sym (up_to-at (output_bits N) f i (omega arith)))

pub length-output_words : (N : Netlist) (list : List ℕ) → length (output_words N list) ≡ output_bits N
unfolding output_words
length-output_words N list = length-up_to (output_bits N) _

-- and the other way round
pub lanes-output_words : (N : Netlist) (list : List ℕ) (j : ℕ) → j < 64 → length (outputs_of N (lanes j list))
    ≡ output_bits N
    → lanes j (output_words N list) ≡ outputs_of N (lanes j list)
unfolding output_words
lanes-output_words N list j l long =
    let f : ℕ → ℕ = λ i. word 64 λ j. get_or (outputs_of N (lanes j list)) i false in
    let n : length (lanes j (up_to (output_bits N) f)) ≡ output_bits N = length-map (up_to (output_bits N) f) (lane j)
    ∙ length-up_to (output_bits N) f in
    ext_get_or false (lanes j (up_to (output_bits N) f)) (outputs_of N (lanes j list)) (n ∙ sym long)
    (λ i h. lanes_at j (up_to (output_bits N) f) i ∙ ap (lane j) (up_to-at (output_bits N) f i (omega arith))
    ∙ lane_word 64 (λ j. get_or (outputs_of N (lanes j list)) i false) j l)
