-- Bits of a masked netlist's wires under all settings: a wire that carries a source bit under a code, and a wire whose
-- count is the same for all input settings.
use Prim.Native.Nat.{ℕ, ◌+◌}
use mathlib.Core.Path.{◌≡◌, ◌∙◌}
use mathlib.Core.Bool.{Bool, ◌||◌}
use mathlib.Core.List.{List, [], ◌∷◌, ◌++◌}
use native.Mathlib.Omega.{arith}
use lib.Dec.{T}
use Rattle.netlist.specs.declared.Gate.{Gate}
use Rattle.netlist.specs.declared.Gate.TheVariants.{Xor}
use Rattle.netlist.specs.declared.Twin.{Twin}
use Rattle.netlist.specs.Eval.{differs}
use Rattle.masking.specs.Mask.{is_code, third, after, mask_wire, changes, change_gates, changed}
use Rattle.masking.specs.Leak.{mask_of, count_of}
use Rattle.netlist.proofs.Tests.{on_bool, empty, each, all_head, all_split}
use Rattle.masking.proofs.CodeLaws.{on_code, third-code, after-code, after-other}
use Rattle.masking.proofs.MaskedBits.{change-law, count_of-same, carried-count}
use Rattle.netlist.proofs.Models.{Models}
use Rattle.netlist.proofs.Order.{AllWires}

-- the bit of each wire, under input settings of any kind X and the four mask settings
abbrev pub Family : Type 0 → Type 0
Family X = X → Bool → Bool → ℕ → Bool

-- gates are satisfied under all settings
abbrev pub Satisfies : {X : Type 0} → Family X → List Gate → Type 0
Satisfies {X} U gs = (x : X) (m0 m1 : Bool) → Models (U x m0 m1) gs

-- a wire's count is the same for all input settings
abbrev pub Balanced : {X : Type 0} → Family X → ℕ → Type 0
Balanced {X} U w = (k : ℕ) × ((x : X) → count_of (λ m0 m1. U x m0 m1 w) ≡ k)

-- a twin carries the bit s: its wire is s XOR the mask of its code
abbrev pub Carries : {X : Type 0} → Family X → Twin → (X → Bool) → Type 0
Carries {X} U A s = (x : X) (m0 m1 : Bool) → U x m0 m1 A.wire ≡ differs (s x) (mask_of m0 m1 A.code)

-- the mask wires, and wire n + 4
pub record Masks {X : Type 0} (U : Family X) (n : ℕ) : Type 0 where
  pub first : (x : X) (m0 m1 : Bool) → U x m0 m1 n ≡ m0
  pub second : (x : X) (m0 m1 : Bool) → U x m0 m1 (n + 1) ≡ m1
  pub sum : (x : X) (m0 m1 : Bool) → U x m0 m1 (n + 2) ≡ differs m0 m1
  pub or : (x : X) (m0 m1 : Bool) → U x m0 m1 (n + 4) ≡ m0 || m1

module _ {X : Type 0} (U : Family X) where
  pub satisfies-split : (gs : List Gate) {hs : List Gate} → Satisfies U (gs ++ hs) → Satisfies U gs × Satisfies U hs
  satisfies-split gs m = (λ x m0 m1. (all_split gs (m x m0 m1)).0, λ x m0 m1. (all_split gs (m x m0 m1)).1)

  pub balanced : (w k : ℕ) (f : X → Bool → Bool → Bool) → ((x : X) (m0 m1 : Bool) → U x m0 m1 w ≡ f x m0 m1)
      → ((x : X) → count_of (f x) ≡ k)
      → Balanced U w
  balanced w k f h c = (k, λ x. count_of-same (λ m0 m1. U x m0 m1 w) (f x) (h x) ∙ c x)

  -- a carried bit is balanced
  pub carries-balanced : (A : Twin) (s : X → Bool) → T (is_code A.code) → Carries U A s → Balanced U A.wire
  carries-balanced A s p h = balanced A.wire 2 (λ x m0 m1. differs (s x) (mask_of m0 m1 A.code)) h
      (λ x. carried-count A.code p (s x))

module _ {X : Type 0} {U : Family X} {n : ℕ} (K : Masks U n) where
  -- the mask wire of a code is its mask
  pub mask-wire : (e : ℕ) → T (is_code e) → (x : X) (m0 m1 : Bool) → U x m0 m1 (mask_wire n e) ≡ mask_of m0 m1 e
  mask-wire = on_code (λ e. (x : X) (m0 m1 : Bool) → U x m0 m1 (mask_wire n e) ≡ mask_of m0 m1 e)
      (let z : n + 0 ≡ n = omega arith in rw z K.first) K.second K.sum

  -- the second operand still carries its bit after the mask change
  pub change-carries : (c : ℕ) (A B : Twin) (t : X → Bool) → T (is_code B.code) → Satisfies U (change_gates n c A B)
      → Carries U B t
      → Carries U (changed c A B) t × AllWires (Balanced U) (change_gates n c A B)
  change-carries c A B t q m h =
      on_bool (changes A B)
      (λ e. let f = after B.code in
      let q' = after-code B.code q in
      let d = after-other B.code q in
      let m' : Satisfies U (Xor B.wire (mask_wire n f) c ∷ []) = rw e at m in
      let D : Twin = record { wire = c; code = third B.code f } in
      let h' : Carries U D t
      = λ x m0 m1. all_head (m' x m0 m1) ∙ rw (h x m0 m1, mask-wire f q' x m0 m1)
      (change-law B.code f q q' d (t x) m0 m1) in
      rw e (h', each (carries-balanced U D t (third-code B.code f q q' d) h') empty))
      (λ e. rw e (h, empty))
