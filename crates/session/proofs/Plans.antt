-- Questions 7 to 9 of a record.
use Prim.Native.Nat.{ℕ}
use mathlib.Core.Path.{◌≡◌, refl, sym, ap, ap₂, ◌∙◌}
use mathlib.Core.Bool.{Bool, true, false}
use lib.Dec.{eqb, ltb}
use borrow.Author.Tests.{ne_eqb, eq-eqb}
use Rattle.netlist.specs.declared.Gate.{Gate}
use Rattle.netlist.specs.Netlist.{result}
use Rattle.netlist.specs.Outcome.{Outcome, refused, done, ask, given, and_then}
use Rattle.netlist.specs.Read.{operands_given}
use Rattle.gates.specs.declared.Kind.{Kind}
use Rattle.gates.specs.declared.Kind.TheVariants.{Xor, And, Inv, Eqw, Eq}
use Rattle.gates.specs.declared.records.GateRecord.{GateRecord}
use Rattle.gates.specs.Records.{gate_of, gate_as}
use Rattle.session.specs.Asked.{gate_good}

result-as : (r : GateRecord) (k : Kind) → result (gate_as r k) ≡ r.result
result-as r Xor = refl
result-as r And = refl
result-as r Inv = refl
result-as r Eqw = refl
result-as r (Eq v) = refl

-- what follows question 7
module _ (next : ℕ) (r : GateRecord) where
  abbrev rest : Gate → Outcome Gate
  rest g = ask 8 (operands_given (λ w. ltb w next) g) (ask 9 (eqb (result g) next) (done g))

  pub no-seven : {o : Outcome Gate} → o ≡ given 7 (gate_of r) → and_then o rest ≡ gate_good next r
  no-seven e = ap (λ (o : Outcome Gate). and_then o rest) e

  module _ (k : Kind) (e : done (gate_as r k) ≡ given 7 (gate_of r)) {b : Bool}
      (o : b ≡ operands_given (λ w. ltb w next) (gate_as r k)) where
    abbrev nine : Bool → Outcome Gate
    nine t = ask 9 t (done (gate_as r k))

    asks-eight : ask 8 b (nine (eqb r.result next)) ≡ gate_good next r
    asks-eight = ap₂ (λ (t : Bool) (w : ℕ). ask 8 t (nine (eqb w next))) o (sym (result-as r k)) ∙ no-seven e

    pub no-eight : b ≡ false → refused 8 ≡ gate_good next r
    no-eight f = ap (λ (t : Bool). ask 8 t (nine (eqb r.result next))) (sym f) ∙ asks-eight

    pub no-nine : b ≡ true → (r.result ≡ next → ⊥) → refused 9 ≡ gate_good next r
    no-nine t n = ap₂ (λ (t u : Bool). ask 8 t (nine u)) (sym t) (sym (ne_eqb r.result next n)) ∙ asks-eight

    pub good : b ≡ true → r.result ≡ next → done (gate_as r k) ≡ gate_good next r
    good t n = ap₂ (λ (t u : Bool). ask 8 t (nine u)) (sym t) (sym (eq-eqb r.result next n)) ∙ asks-eight
