-- Gates as (left AND factor) XOR term.
use mathlib.Core.Path.{◌≡◌, ap, ap₂, ◌∙◌}
use mathlib.Core.Bool.{Bool, true, false, ◌&&◌}
use Prim.Native.Nat.{ℕ, ◌*◌, ◌/◌, ◌-◌, ◌^◌, ◌<◌}
use lib.Bits.{bit_and, bit_xor}
use Rattle.netlist.specs.Eval.{differs, bit}
use Rattle.netlist.specs.Table.{made_of}
use Rattle.evaluate.specs.Lane.{lane}
use Rattle.evaluate.specs.Form.{factor_of, term_of}
use Rattle.netlist.proofs.EachNumber.{same-below}
use Rattle.evaluate.proofs.Lanes.{lane_and, lane_xor, lane-zero, bit-low}

lane-spread : (j : ℕ) → j < 64 → (b : Bool) → lane j (bit b * (2 ^ 64 - 1)) ≡ b
lane-spread j l true = same-below 64 (λ j. lane j (2 ^ 64 - 1)) (λ j. true) tt j l
lane-spread j l false = lane-zero j

-- a bit in every lane
pub spread-law : (n i j : ℕ) → j < 64 → lane j (bit_and (n / 2 ^ i) 1 * (2 ^ 64 - 1)) ≡ lane i n
spread-law n i j l = ap (λ (x : ℕ). lane j (x * (2 ^ 64 - 1))) (bit-low i n) ∙ lane-spread j l (lane i n)

-- each kind's gate has the form
abbrev row : Bool → Bool → ℕ → Bool
row x y k = differs (x && factor_of k y) (term_of k y)

row-law : (x y : Bool) (k : ℕ) → k < 8 → row x y k ≡ made_of k x y
row-law true true = same-below 8 (row true true) (λ k. made_of k true true) tt
row-law true false = same-below 8 (row true false) (λ k. made_of k true false) tt
row-law false true = same-below 8 (row false true) (λ k. made_of k false true) tt
row-law false false = same-below 8 (row false false) (λ k. made_of k false false) tt

pub made-law : (k a b j x y : ℕ) → k < 8 → lane j x ≡ factor_of k (lane j b) → lane j y ≡ term_of k (lane j b)
    → lane j (bit_xor (bit_and a x) y) ≡ made_of k (lane j a) (lane j b)
made-law k a b j x y l ex ey =
    lane_xor j (bit_and a x) y ∙ ap₂ differs (lane_and j a x ∙ ap (λ (f : Bool). lane j a && f) ex) ey
    ∙ row-law (lane j a) (lane j b) k l
