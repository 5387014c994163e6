-- Each choice of the bits of up to six inputs is one of the settings of a table.
use Rattle.std.proofs.Common.{◌≡◌, ℕ, ◌+◌, ◌*◌, ◌/◌, ◌%◌, ◌<◌, Bool, true, false, nat_eq, refl, ap, ◌∙◌, arith}
use Rattle.netlist.specs.Eval.{bit}
use Rattle.netlist.proofs.EachNumber.{same-below}
use Rattle.cells.specs.Tables.{table_bit}

-- the setting of six bits
abbrev pub setting : Bool → Bool → Bool → Bool → Bool → Bool → ℕ
setting a b c d e f = bit a + 2 * bit b + 4 * bit c + 8 * bit d + 16 * bit e + 32 * bit f

bit_small : (b : Bool) → bit b < 2
bit_small true = omega arith
bit_small false = omega arith

bit_again : (b : Bool) → nat_eq (bit b) 1 ≡ b
bit_again true = refl
bit_again false = refl

abbrev bit_of : ℕ → ℕ → Bool
bit_of j p = nat_eq (j / p % 2) 1

table_0 : (j : ℕ) → j < 64 → table_bit 0xaaaa_aaaa_aaaa_aaaa j ≡ bit_of j 1
unfolding table_bit
table_0 j l = same-below 64 (λ j. table_bit 0xaaaa_aaaa_aaaa_aaaa j) (λ j. bit_of j 1) tt j l

table_1 : (j : ℕ) → j < 64 → table_bit 0xcccc_cccc_cccc_cccc j ≡ bit_of j 2
unfolding table_bit
table_1 j l = same-below 64 (λ j. table_bit 0xcccc_cccc_cccc_cccc j) (λ j. bit_of j 2) tt j l

table_2 : (j : ℕ) → j < 64 → table_bit 0xf0f0_f0f0_f0f0_f0f0 j ≡ bit_of j 4
unfolding table_bit
table_2 j l = same-below 64 (λ j. table_bit 0xf0f0_f0f0_f0f0_f0f0 j) (λ j. bit_of j 4) tt j l

table_3 : (j : ℕ) → j < 64 → table_bit 0xff00_ff00_ff00_ff00 j ≡ bit_of j 8
unfolding table_bit
table_3 j l = same-below 64 (λ j. table_bit 0xff00_ff00_ff00_ff00 j) (λ j. bit_of j 8) tt j l

table_4 : (j : ℕ) → j < 64 → table_bit 0xffff_0000_ffff_0000 j ≡ bit_of j 16
unfolding table_bit
table_4 j l = same-below 64 (λ j. table_bit 0xffff_0000_ffff_0000 j) (λ j. bit_of j 16) tt j l

table_5 : (j : ℕ) → j < 64 → table_bit 0xffff_ffff_0000_0000 j ≡ bit_of j 32
unfolding table_bit
table_5 j l = same-below 64 (λ j. table_bit 0xffff_ffff_0000_0000 j) (λ j. bit_of j 32) tt j l

-- a setting below 64 that the tables of the inputs say the bits of
pub record Row (a b c d e f : Bool) : Type 0 where
  pub at : ℕ
  pub below : at < 64
  pub first : table_bit 0xaaaa_aaaa_aaaa_aaaa at ≡ a
  pub second : table_bit 0xcccc_cccc_cccc_cccc at ≡ b
  pub third : table_bit 0xf0f0_f0f0_f0f0_f0f0 at ≡ c
  pub fourth : table_bit 0xff00_ff00_ff00_ff00 at ≡ d
  pub fifth : table_bit 0xffff_0000_ffff_0000 at ≡ e
  pub sixth : table_bit 0xffff_ffff_0000_0000 at ≡ f

digit : (n : ℕ) (b : Bool) → n ≡ bit b → nat_eq n 1 ≡ b
digit n b e = ap (λ m. nat_eq m 1) e ∙ bit_again b

digits : (p q r s t v n : ℕ) → p < 2 → q < 2 → r < 2 → s < 2 → t < 2 → v < 2 → n ≡ p + 2 * q + 4 * r + 8 * s + 16 * t + 32 * v
    → (n < 64) × (n / 1 % 2 ≡ p) × (n / 2 % 2 ≡ q) × (n / 4 % 2 ≡ r) × (n / 8 % 2 ≡ s) × (n / 16 % 2 ≡ t) × (n / 32 % 2 ≡ v)
digits p q r s t v n a b c d e f g =
    (omega arith, omega arith, omega arith, omega arith, omega arith, omega arith, omega arith)

pub row : (a b c d e f : Bool) → Row a b c d e f
row a b c d e f =
    let n = setting a b c d e f in
    let all = digits (bit a) (bit b) (bit c) (bit d) (bit e) (bit f) n (bit_small a) (bit_small b) (bit_small c)
    (bit_small d) (bit_small e) (bit_small f) refl in
    record {
      at = n;
      below = all.0;
      first = table_0 n all.0 ∙ digit _ a all.1;
      second = table_1 n all.0 ∙ digit _ b all.2;
      third = table_2 n all.0 ∙ digit _ c all.3;
      fourth = table_3 n all.0 ∙ digit _ d all.4;
      fifth = table_4 n all.0 ∙ digit _ e all.5;
      sixth = table_5 n all.0 ∙ digit _ f all.6;
    }
