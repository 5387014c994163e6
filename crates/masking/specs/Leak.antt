-- What a leak is (docs/RULES.md, Leaks).
use Rattle.std.specs.Prelude.{ℕ, zero, suc, ◌+◌, ◌/◌, ◌%◌, ◌^◌, ◌<◌, Bool, true, false, cond, ◌&&◌, List, [], ◌∷◌, ◌≡◌}
use Rattle.std.specs.Prelude.{◌≢◌, eqb, length, get_or}
use Rattle.std.proofs.Math.Option.{Option, none, some}
use Rattle.netlist.specs.Netlist.{Netlist}
use Rattle.netlist.specs.Eval.{bit, wire_bits, bits_at, differs}
use Rattle.masking.specs.Mask.{is_public}

-- the mask of a code under a mask setting; no mask where it is no code, as for a public bit
abbrev pub mask_of : Bool → Bool → ℕ → Bool
mask_of m0 m1 e = cond (eqb e 1) m0 (cond (eqb e 2) m1 (cond (eqb e 3) (differs m0 m1) false))

-- the input wires under a mask setting and an input setting: each bit XOR the mask of its code, then m0 and m1
abbrev pub masked : Bool → Bool → List ℕ → List Bool → List Bool
masked m0 m1 [] x = m0 ∷ m1 ∷ []
masked m0 m1 (e ∷ es) [] = mask_of m0 m1 e ∷ masked m0 m1 es []
masked m0 m1 (e ∷ es) (b ∷ x) = differs b (mask_of m0 m1 e) ∷ masked m0 m1 es x

-- how many of the four mask settings make a bit one
abbrev pub count_of : (Bool → Bool → Bool) → ℕ
count_of f = bit (f false false) + bit (f true false) + bit (f false true) + bit (f true true)

-- the count of wire w for an input setting
unfoldable pub count : Netlist → List ℕ → ℕ → List Bool → ℕ
count N codes w x = count_of (λ m0 m1. bits_at (wire_bits N (masked m0 m1 codes x)) w)

-- the setting with the same public bits and zero secrets
abbrev pub public_only : List ℕ → List Bool → List Bool
public_only [] x = []
public_only (e ∷ es) [] = false ∷ public_only es []
public_only (e ∷ es) (b ∷ x) = (is_public e && b) ∷ public_only es x

-- two settings that agree in their public bits
pub record SamePublic (codes : List ℕ) (x y : List Bool) : Type 0 where
  pub first : length x ≡ length codes
  pub second : length y ≡ length codes
  pub public : public_only codes x ≡ public_only codes y

-- no bit is public
abbrev pub Secret : List ℕ → Type 0
Secret codes = (i : ℕ) → i < length codes → is_public (get_or codes i 0) ≡ false

-- the rule that a wire meets: its count is the same for all input settings that agree in their public bits
abbrev pub EqualCounts : Netlist → List ℕ → ℕ → Type 0
EqualCounts N codes w = (x y : List Bool) → SamePublic codes x y → count N codes w x ≡ count N codes w y

-- a netlist is clean when each wire meets it
abbrev pub Clean : Netlist → List ℕ → Type 0
Clean N codes = (w : ℕ) → w < N.wires → EqualCounts N codes w

-- input setting number s, of k bits: input bit 0 is the lowest
abbrev pub setting : ℕ → ℕ → List Bool
setting zero s = []
setting (suc k) s = eqb (s % 2) 1 ∷ setting k (s / 2)

-- a leak: its wire, its setting, the count of the setting that it is compared with, and its own
pub record Found : Type 0 where
  pub wire : ℕ
  pub at : ℕ
  pub base : ℕ
  pub own : ℕ

-- the first setting from s on, of as many as left, whose count g on wire w differs from f
abbrev pub first_setting : (ℕ → ℕ → ℕ) → (ℕ → ℕ → ℕ) → ℕ → ℕ → ℕ → Option Found
first_setting f g w zero s = none
first_setting f g w (suc left) s =
    elim (eqb (f w s) (g w s)) [
      | true ↦ first_setting f g w left (s + 1)
      | false ↦ some (record { wire = w; at = s; base = f w s; own = g w s })
    ]

abbrev pub or_else : Option Found → Option Found → Option Found
or_else none r = r
or_else (some f) r = some f

-- the first wire from w on, of as many as left, with such a setting below S
abbrev pub first_wire : (ℕ → ℕ → ℕ) → (ℕ → ℕ → ℕ) → ℕ → ℕ → ℕ → Option Found
first_wire f g S zero w = none
first_wire f g S (suc left) w = or_else (first_setting f g w S 0) (first_wire f g S left (w + 1))

-- the count of wire w in setting number s
abbrev pub count_at : Netlist → List ℕ → ℕ → ℕ → ℕ
count_at N codes w s = count N codes w (setting (length codes) s)

-- the count that it is compared with: that of the setting with the same public bits and zero secrets
abbrev pub base_at : Netlist → List ℕ → ℕ → ℕ → ℕ
base_at N codes w s = count N codes w (public_only codes (setting (length codes) s))

-- the lowest wire, then the smallest setting, whose count differs from its base's; none where the netlist is clean
unfoldable pub leak : Netlist → List ℕ → Option Found
leak N codes = first_wire (base_at N codes) (count_at N codes) (2 ^ length codes) N.wires 0

-- what a reported leak says: its wire is the lowest that does not meet the rule, its setting the smallest whose count
-- differs from its base's, and the two counts are those
pub record LowestLeak (N : Netlist) (codes : List ℕ) (f : Found) : Type 0 where
  pub wire : f.wire < N.wires
  pub lower : (w : ℕ) → w < f.wire → EqualCounts N codes w
  pub breaks : EqualCounts N codes f.wire → ⊥
  pub at : f.at < 2 ^ length codes
  pub smaller : (s : ℕ) → s < f.at → count_at N codes f.wire s ≡ base_at N codes f.wire s
  pub other : count_at N codes f.wire f.at ≢ base_at N codes f.wire f.at
  pub base : f.base ≡ base_at N codes f.wire f.at
  pub own : f.own ≡ count_at N codes f.wire f.at
