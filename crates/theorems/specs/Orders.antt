-- Orders and shortcuts that break masking or checking (docs/RULES.md, Masking a source): what each of them does.
use Rattle.std.specs.Prelude.{ℕ, ◌+◌, Bool, true, false, cond, not, ◌&&◌, List, [], ◌∷◌, ◌≡◌, T, eqb, get_or}
use Rattle.std.proofs.Math.Option.{some}
use Rattle.netlist.specs.declared.Gate.TheVariants.{Xor}
use Rattle.netlist.specs.Netlist.{Netlist}
use Rattle.netlist.specs.Eval.{differs}
use Rattle.masking.specs.Mask.{is_code, Row, row, rows}
use Rattle.masking.specs.Leak.{mask_of, count_of, count_at, leak}
use Rattle.masking.specs.AndBits.{row_bits, operand_bits}

-- bit j of the steps, and its count, for operands first and second under codes e and f
abbrev pub step_bit : List Row → ℕ → ℕ → ℕ → Bool → Bool → Bool → Bool → Bool
step_bit steps j e f first second m0 m1 = get_or (row_bits steps (operand_bits e f first second m0 m1)) j false

abbrev pub step_count : List Row → ℕ → ℕ → ℕ → Bool → Bool → ℕ
step_count steps j e f first second = count_of (step_bit steps j e f first second)

-- s4 joined to s5 before wire n + 4
abbrev pub or_last : List Row
or_last = row true 0 1 ∷ row true 0 3 ∷ row false 6 3 ∷ row false 5 7 ∷ row true 2 1 ∷ row false 8 9 ∷ row false 10 4 ∷
    []

-- s1 and s5 joined first
abbrev pub products_first : List Row
products_first = row true 0 1 ∷ row true 0 3 ∷ row false 6 3 ∷ row true 2 1 ∷ row false 5 8 ∷ row false 9 7 ∷ row false
    10 4 ∷ []

-- a netlist that takes its input's mask off on wire 3 and puts another on for its output, wire 4
abbrev pub masked_again : Netlist
masked_again = record { wires = 5; inputs = 1 ∷ 2 ∷ []; outputs = 1 ∷ []; gates = Xor 0 1 3 ∷ Xor 3 2 4 ∷ [] }

-- each code e and each other code f
abbrev pub ForTwoCodes : (ℕ → ℕ → Type 0) → Type 0
ForTwoCodes P = (e f : ℕ) → T (is_code e) → T (is_code f) → T (not (eqb e f)) → P e f

pub record OrdersBreak : Type 0 where
  -- joining s4 to s5 before wire n + 4: the count is 1 where the product is 0, and 3 where it is 1
  pub or_joined_last : ForTwoCodes λ e f. (a b : Bool) → step_count or_last 5 e f a b ≡ cond (a && b) 3 1
  -- joining s1 and s5 first: the count is 0 or 2, by the first operand's bit
  pub products_joined : ForTwoCodes λ e f. (a b : Bool) → step_count products_first 4 e f a b ≡ cond a 2 0
  -- an AND of a wire with itself without a mask change: s2 has count 2 or 0
  pub same_wire : (e : ℕ) → T (is_code e) → (a : Bool) → step_count rows 1 e e a a ≡ cond a 0 2
  -- giving an AND the code of its second operand: the product comes out wrong under some setting
  pub second_code : ForTwoCodes λ e f.
      ((a b m0 m1 : Bool) → differs (step_bit rows 6 e f a b m0 m1) (mask_of m0 m1 f) ≡ a && b) → ⊥
  -- judging the outputs alone: wire 3 leaks, and the output's count is the same in both settings
  pub inner_leak : leak masked_again (1 ∷ []) ≡ some (record { wire = 3; at = 1; base = 0; own = 4 })
  pub output_counts : count_at masked_again (1 ∷ []) 4 0 ≡ count_at masked_again (1 ∷ []) 4 1
  -- judging sums of counts over all settings: that of wire 3, which leaks, is that of the input
  pub added_counts : count_at masked_again (1 ∷ []) 3 0 + count_at masked_again (1 ∷ []) 3 1
      ≡ count_at masked_again (1 ∷ []) 0 0 + count_at masked_again (1 ∷ []) 0 1
