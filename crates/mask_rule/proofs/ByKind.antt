-- What a source gate becomes is told by its kind and its operands' twins.
use Prim.Native.Nat.{ℕ}
use mathlib.Core.Path.{◌≡◌, refl}
use Rattle.netlist.specs.Netlist.{result}
use Rattle.masking.specs.Mask.{State, twin, emit, result_twin}
use Rattle.gates.specs.declared.Kind.{Kind}
use Rattle.gates.specs.declared.Kind.TheVariants.{Xor, And, Inv, Eqw, Eq}
use Rattle.gates.specs.Kind.{gate_for}
use Rattle.mask_rule.specs.Rule.{steps_of, twin_of}

module _ (S : State) (a b d : ℕ) where
  pub emit-of : (n : ℕ) (k : Kind) → emit n S (gate_for k a b d) ≡ steps_of n S.next k (twin S a) (twin S b)
  emit-of n Xor = refl
  emit-of n And = refl
  emit-of n Inv = refl
  emit-of n Eqw = refl
  emit-of n (Eq v) = refl

  pub twin-of : (k : Kind) → result_twin S (gate_for k a b d) ≡ twin_of S.next k (twin S a) (twin S b)
  twin-of Xor = refl
  twin-of And = refl
  twin-of Inv = refl
  twin-of Eqw = refl
  twin-of (Eq v) = refl

pub result-of : (a b d : ℕ) (k : Kind) → result (gate_for k a b d) ≡ d
result-of a b d Xor = refl
result-of a b d And = refl
result-of a b d Inv = refl
result-of a b d Eqw = refl
result-of a b d (Eq v) = refl
