-- The four value pairs are shown as often as in another setting exactly if both wires, and their AND, are one as often
-- as there.
use Prim.Native.Nat.{ℕ, ◌+◌}
use mathlib.Core.Path.{◌≡◌, refl}
use mathlib.Core.Bool.{Bool, true, false, ◌&&◌}
use mathlib.Core.List.{List}
use native.Mathlib.Omega.{arith}
use Rattle.netlist.specs.Netlist.{Netlist}
use Rattle.netlist.specs.Eval.{bits_at, wire_bits, bit}
use Rattle.masking.specs.Leak.{masked, count}
use Rattle.check_pairs.specs.Pairs.{shows, pair_count, both_count}

-- one mask setting shows one value pair
record Split (a b : Bool) : Type 0 where
  left : bit a ≡ bit (shows true false a b) + bit (shows true true a b)
  right : bit b ≡ bit (shows false true a b) + bit (shows true true a b)
  both : bit (a && b) ≡ bit (shows true true a b)
  one : 1 ≡ bit (shows false false a b) + bit (shows true false a b) + bit (shows false true a b) + bit
      (shows true true a b)

split : (a b : Bool) → Split a b
split true true = record { left = refl; right = refl; both = refl; one = refl }
split true false = record { left = refl; right = refl; both = refl; one = refl }
split false true = record { left = refl; right = refl; both = refl; one = refl }
split false false = record { left = refl; right = refl; both = refl; one = refl }

module _ (N : Netlist) (codes : List ℕ) (u v : ℕ) where
  abbrev shown : Bool → Bool → List Bool → ℕ
  shown = pair_count N codes u v

  -- four mask settings show four
  record Shown (x : List Bool) : Type 0 where
    left : count N codes u x ≡ shown true false x + shown true true x
    right : count N codes v x ≡ shown false true x + shown true true x
    both : both_count N codes u v x ≡ shown true true x
    four : 4 ≡ shown false false x + shown true false x + shown false true x + shown true true x

  shown-is : (x : List Bool) → Shown x
  unfolding count pair_count both_count
  shown-is x =
      let a : Bool → Bool → Bool = λ m0 m1. bits_at (wire_bits N (masked m0 m1 codes x)) u in
      let b : Bool → Bool → Bool = λ m0 m1. bits_at (wire_bits N (masked m0 m1 codes x)) v in
      let s₀ = split (a false false) (b false false) in
      let s₁ = split (a true false) (b true false) in
      let s₂ = split (a false true) (b false true) in
      let s₃ = split (a true true) (b true true) in
      record {
        left = omega (arith, s₀.left, s₁.left, s₂.left, s₃.left);
        right = omega (arith, s₀.right, s₁.right, s₂.right, s₃.right);
        both = omega (arith, s₀.both, s₁.both, s₂.both, s₃.both);
        four = omega (arith, s₀.one, s₁.one, s₂.one, s₃.one);
      }

  module _ (x y : List Bool) where
    -- the three counts are the same in two settings
    pub record SameThree : Type 0 where
      pub left : count N codes u x ≡ count N codes u y
      pub right : count N codes v x ≡ count N codes v y
      pub both : both_count N codes u v x ≡ both_count N codes u v y

    pub shown-three : ((p q : Bool) → pair_count N codes u v p q x ≡ pair_count N codes u v p q y) → SameThree
    shown-three h =
        let X = shown-is x in
        let Y = shown-is y in
        record {
          left = omega (arith, h true false, h true true, X.left, Y.left);
          right = omega (arith, h false true, h true true, X.right, Y.right);
          both = omega (arith, h true true, X.both, Y.both);
        }

    pub three-shown : SameThree → (p q : Bool) → pair_count N codes u v p q x ≡ pair_count N codes u v p q y
    three-shown S true true = let X = shown-is x in let Y = shown-is y in omega (arith, S.both, X.both, Y.both)
    three-shown S true false = let X = shown-is x in let Y = shown-is y
        in omega (arith, S.both, S.left, X.both, Y.both, X.left, Y.left)
    three-shown S false true = let X = shown-is x in let Y = shown-is y
        in omega (arith, S.both, S.right, X.both, Y.both, X.right, Y.right)
    three-shown S false false =
        let X = shown-is x in
        let Y = shown-is y in
        omega (arith, S.both, S.left, S.right, X.both, Y.both, X.left, Y.left, X.right, Y.right, X.four, Y.four)
