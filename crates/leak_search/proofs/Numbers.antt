-- The bits of a block's numbers, b * 64 + j in lane j.
use mathlib.Core.Path.{◌≡◌, sym, ap, ap₂, ◌∙◌}
use mathlib.Core.List.{List, [], ◌∷◌}
use Prim.Native.Nat.{ℕ, zero, suc, ◌+◌, ◌-◌, ◌*◌, ◌/◌, ◌%◌, ◌^◌, ◌≤◌, ◌<◌}
use native.Mathlib.Nat.{add_comm, le_of_suc-le-suc, not-suc-le-zero, pow-suc}
use native.Mathlib.Omega.{arith}
use lib.Dec.{eqb}
use lib.ListN.{get_or}
use lib.Bits.{block_half, block_odd}
use lib.Pow.{shr-shr}
use Rattle.netlist.specs.Eval.{differs}
use Rattle.evaluate.specs.Lane.{lane}
use Rattle.evaluate.proofs.Lanes.{lane-shr}
use Rattle.netlist.specs.Lists.{below}
use Rattle.netlist.proofs.EachNumber.{below_at, same, same-below}

-- the bits of a shifted number
pub lane-shift : (k j n : ℕ) → lane j (n / 2 ^ k) ≡ lane (j + k) n
lane-shift k j n =
    lane-shr j (n / 2 ^ k) ∙ ap (λ (x : ℕ). eqb (x % 2) 1) (shr-shr n k j ∙ ap (λ (m : ℕ). n / 2 ^ m) (add_comm k j))
    ∙ sym (lane-shr (j + k) n)

-- the low bits of a number in two parts are those of its low part
pub low-lane : (m i b j : ℕ) → i < m → lane i (b * 2 ^ m + j) ≡ lane i j
low-lane zero i b j l = absurd (not-suc-le-zero l)
low-lane (suc m) zero b j l = ap (λ (n : ℕ). eqb n 1) (block_odd b m j)
low-lane (suc m) (suc i) b j l = ap (lane i) (block_half b m j) ∙ low-lane m i b (j / 2) (le_of_suc-le-suc l)

-- and the high bits those of its high part
pub high_lane : (m i b j : ℕ) → j < 2 ^ m → m ≤ i → lane i (b * 2 ^ m + j) ≡ lane (i - m) b
high_lane zero i b j l h =
    let e : b * 1 + j ≡ b = omega arith in
    let f : i ≡ i - 0 = omega arith in
    ap (lane i) e ∙ ap (λ (k : ℕ). lane k b) f
high_lane (suc m) zero b j l h = absurd (not-suc-le-zero h)
high_lane (suc m) (suc i) b j l h =
    let p = pow-suc 2 m in
    let f : i - m ≡ suc i - suc m = omega arith in
    ap (lane i) (block_half b m j) ∙ high_lane m i b (j / 2) (omega arith) (le_of_suc-le-suc h)
    ∙ ap (λ (k : ℕ). lane k b) f

-- the words whose lanes are the low bits
abbrev patterns : List ℕ
patterns =
    0xaaaa_aaaa_aaaa_aaaa ∷ 0xcccc_cccc_cccc_cccc ∷ 0xf0f0_f0f0_f0f0_f0f0 ∷ 0xff00_ff00_ff00_ff00 ∷
    0xffff_0000_ffff_0000 ∷ 0xffff_ffff_0000_0000 ∷ []

module _ (b j : ℕ) (l : j < 64) where
  pub pattern-law : (i : ℕ) → i < 6 → lane j (get_or patterns i 0) ≡ lane i (b * 64 + j)
  pattern-law i m =
      same-below 64 (λ j. lane j (get_or patterns i 0)) (λ j. lane i j)
      (below_at 6 (λ i. below 64 (λ j. same (lane j (get_or patterns i 0)) (lane i j))) tt i m) j l
      ∙ sym (low-lane 6 i b j m)

  pub first-mask : lane j 0xaaaa_aaaa_aaaa_aaaa ≡ lane 0 (b * 64 + j)
  first-mask = pattern-law 0 (omega arith)

  pub second-mask : lane j 0xcccc_cccc_cccc_cccc ≡ lane 1 (b * 64 + j)
  second-mask = pattern-law 1 (omega arith)

  pub third-mask : lane j 0x6666_6666_6666_6666 ≡ differs (lane 0 (b * 64 + j)) (lane 1 (b * 64 + j))
  third-mask =
      same-below 64 (λ j. lane j 0x6666_6666_6666_6666) (λ j. differs (lane j 0xaaaa_aaaa_aaaa_aaaa)
      (lane j 0xcccc_cccc_cccc_cccc)) tt j l
      ∙ ap₂ differs first-mask second-mask
