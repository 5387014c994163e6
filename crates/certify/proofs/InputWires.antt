-- What is known of the input wires.
use mathlib.Core.Path.{◌≡◌, refl, sym, ap, ap₂, ◌∙◌}
use mathlib.Core.Bool.{Bool, true, false, cond, ◌&&◌}
use mathlib.Core.List.{List}
use Prim.Native.Nat.{ℕ, suc, ◌+◌, ◌*◌, ◌^◌, ◌<◌}
use native.Mathlib.Omega.{arith}
use lib.Dec.{eqb}
use lib.Bits.{bit_xor}
use lib.ListN.{length, get_or}
use Rattle.netlist.specs.Netlist.{Netlist}
use Rattle.netlist.specs.Eval.{differs}
use Rattle.masking.specs.Mask.{is_public}
use Rattle.masking.specs.Leak.{mask_of, masked, public_only}
use Rattle.netlist.proofs.EachNumber.{same-below}
use Rattle.netlist.proofs.Models.{bits-inputs}
use Rattle.masking.proofs.Settings.{public_only-at}
use Rattle.evaluate.specs.Lane.{lane}
use Rattle.evaluate.proofs.Lanes.{lane_xor}
use Rattle.leak_search.proofs.Inputs.{masked-long, masked-at, masked-m0, masked-m1}
use Rattle.certify_records.specs.Record.{no_atom, over}
use Rattle.certify.specs.Known.{bit_of, atom_bit, Known, Open}
use Rattle.evaluate.proofs.Words.{word-known}
use Rattle.certify.specs.Pass.{Masked}
use Rattle.certify.specs.Step.{mask_word}
use Rattle.certify.proofs.Steps.{own-atoms}

pub no-mask : (e : ℕ) → mask_of false false e ≡ false
no-mask e = go (eqb e 1) (eqb e 2) (eqb e 3)
  where
    go : (a b c : Bool) → cond a false (cond b false (cond c (differs false false) false)) ≡ false
    go true b c = refl
    go false true c = refl
    go false false true = refl
    go false false false = refl

pub differs_none : (b : Bool) → differs b false ≡ b
differs_none true = refl
differs_none false = refl

swap : (a b : Bool) → differs a b ≡ differs b a
swap true true = refl
swap true false = refl
swap false true = refl
swap false false = refl

-- what the mask of a code shows at a place
abbrev pub MaskIs : ℕ → ℕ → Type 0
MaskIs t e = (b j : ℕ) → j < 64 → lane j t ≡ mask_of (lane 0 (b * 64 + j)) (lane 1 (b * 64 + j)) e

pub mask-place : (t e : ℕ) → MaskIs t e → (l : ℕ) → l < 64 → lane l t ≡ mask_of (lane 0 l) (lane 1 l) e
mask-place t e m l h = let z : 0 * 64 + l ≡ l = omega arith in rw z at (m 0 l h)

pub mask-is : (t e : ℕ) → t < 2 ^ 64 → MaskIs t e → t ≡ mask_word e
mask-is t e fits m = word-known t (λ l. mask_of (lane 0 l) (lane 1 l) e) fits (mask-place t e m)

module _ {N : Netlist} {codes : List ℕ} (M : Masked N codes) where
  module _ (x : List Bool) (m0 m1 : Bool) where
    ins-bit : (w : ℕ) → w < length codes + 2 → bit_of N codes x w m0 m1 ≡ get_or (masked m0 m1 codes x) w false
    ins-bit w h =
        let e = M.ins in
        bits-inputs M.formed (masked m0 m1 codes x) (masked-long m0 m1 codes x ∙ sym e) w (omega arith)

    pub input-bit : (i : ℕ) → i < length codes → bit_of N codes x i m0 m1 ≡ differs (get_or x i false)
        (mask_of m0 m1 (get_or codes i 0))
    input-bit i h = ins-bit i (omega arith) ∙ masked-at m0 m1 codes x i h

    first_bit : bit_of N codes x (length codes) m0 m1 ≡ m0
    first_bit = ins-bit (length codes) (omega arith) ∙ masked-m0 m0 m1 codes x

    second-bit : bit_of N codes x (length codes + 1) m0 m1 ≡ m1
    second-bit =
        let e : length codes + 1 ≡ suc (length codes) = omega arith in
        ins-bit (length codes + 1) (omega arith) ∙ ap (λ (k : ℕ). get_or (masked m0 m1 codes x) k false) e
        ∙ masked-m1 m0 m1 codes x

  pub input-known : (i t e : ℕ) → i < 268435456 → i < length codes → get_or codes i 0 ≡ e → MaskIs t e
      → Known N codes i (over (bit_xor t 0xf0f0_f0f0_f0f0_f0f0) (8 * i))
  input-known i t e small inside code m = record {
    right = λ x. record {
      each = λ l h at.
          let some : 8 * i ≡ no_atom → ⊥ = λ z. omega arith in
          let k : 8 * i + (2 * 0 + 0) ≡ 8 * i = omega arith in
          let own = (own-atoms N codes x i).atom 0 (omega arith) false in
          let b : get_or x i false ≡ lane 2 l =
          sym (differs_none (get_or x i false)) ∙ ap (differs (get_or x i false)) (sym (no-mask (get_or codes i 0)))
          ∙ sym (input-bit x false false i inside)
          ∙ sym (differs_none (bit_of N codes x i false false)) ∙ sym own ∙ ap (atom_bit N codes x) k
          ∙ at.first.bit some in
          lane_xor l t 0xf0f0_f0f0_f0f0_f0f0
          ∙ ap₂ differs (mask-place t e m l h) (same-below 64 (λ l. lane l 0xf0f0_f0f0_f0f0_f0f0) (λ l. lane 2 l) tt l
          h)
          ∙ swap (mask_of (lane 0 l) (lane 1 l) e) (lane 2 l)
          ∙ ap₂ (λ (p : Bool) (c : ℕ). differs p (mask_of (lane 0 l) (lane 1 l) c)) (sym b) (sym code)
          ∙ sym (input-bit x (lane 0 l) (lane 1 l) i inside);
    };
  }

  pub first-known : (t : ℕ) → MaskIs t 1 → Known N codes (length codes) (over t no_atom)
  first-known t m = record {
    right = λ x. record {
      each = λ l h at. mask-place t 1 m l h
          ∙ sym (first_bit x (lane 0 l) (lane 1 l));
    };
  }

  pub second-known : (t : ℕ) → MaskIs t 2 → Known N codes (length codes + 1) (over t no_atom)
  second-known t m = record {
    right = λ x. record {
      each = λ l h at. mask-place t 2 m l h
          ∙ sym (second-bit x (lane 0 l) (lane 1 l));
    };
  }

  -- a public input bit arrives unmasked
  pub input-open : (i : ℕ) → i < length codes → get_or codes i 0 ≡ 0 → Open N codes i
  input-open i h code = record {
    same = λ x y P m0 m1.
        let at : (z : List Bool) → get_or (public_only codes z) i false ≡ get_or z i false =
        λ z. public_only-at codes z i h ∙ ap (λ (c : ℕ). is_public c && get_or z i false) code in
        let s : get_or x i false ≡ get_or y i false = sym (at x) ∙ ap (λ (z : List Bool). get_or z i false) P.public
        ∙ at y in
        input-bit x m0 m1 i h ∙ ap (λ (b : Bool). differs b (mask_of m0 m1 (get_or codes i 0))) s
        ∙ sym (input-bit y m0 m1 i h);
  }
