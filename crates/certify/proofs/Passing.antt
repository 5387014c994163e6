-- The pass, gate by gate.
use mathlib.Core.Path.{◌≡◌, refl, sym, ap, ◌∙◌, subst}
use mathlib.Core.Bool.{true, false}
use mathlib.Core.List.{List}
use Prim.Native.Nat.{ℕ, zero, suc, ◌+◌, ◌*◌, ◌/◌, ◌%◌, ◌≤◌, ◌<◌}
use native.Mathlib.Omega.{arith}
use lib.Bits.{bit_and, and_mask}
use lib.Dec.{eqb}
use lib.ListN.{length, get_or, replicate}
use borrow.Author.Tests.{eqb-true, eqb-false, eq-eqb, ne_eqb}
use Rattle.netlist.specs.declared.Gate.{Gate}
use Rattle.netlist.specs.Netlist.{Netlist, result}
use Rattle.netlist.specs.Eval.{made, bits_at, wire_bits}
use Rattle.masking.specs.Leak.{masked}
use Rattle.evaluate.specs.Lane.{lane}
use Rattle.netlist.specs.Table.{Tables, gate_at, gates_of, half, Holds}
use Rattle.netlist.proofs.Models.{Models, bits-satisfy}
use Rattle.netlist.proofs.Tests.{on_bool, All, all_head, all_split}
use Rattle.certify_records.proofs.Evens.{no}
use Rattle.std.specs.Option.{MatchOption}
use Rattle.std.specs.Prelude.{Option, Some, None, IfSome}
use Rattle.certify.specs.Step.{parts_for}
use Rattle.certify.proofs.Turns.{parts-made}
use Rattle.certify.specs.Pass.{Holding, Masked, GateMakes, sure}

-- what holds of all gates holds of each
gate-of : {P : Gate → Type 0} (t : Tables) (n i : ℕ) → All P (gates_of t n) → i < n → P (gate_at t i)
gate-of t zero i a h = absurd (omega arith)
gate-of {P} t (suc n) i a h =
    let s = all_split (gates_of t n) a in
    on_bool (eqb i n)
    (λ e. subst (λ (k : ℕ). P (gate_at t k)) (sym (eqb-true i n e)) (all_head s.1))
    (λ e. let f : i ≡ n → ⊥ = eqb-false i n e in gate-of t n i s.0 (omega arith))

-- a gate's result is what its kind makes of its operands
pub gate-makes : {t : Tables} {m W n o : ℕ} {N : Netlist} {codes : List ℕ} (i : ℕ) → Holds t m W n o N → Masked N codes
    → i < m
    → GateMakes N codes (parts_for (gate_at t i))
gate-makes {t} {m} {N = N} {codes = codes} i H M h = record {
  bit = λ x m0 m1.
      let u = bits_at (wire_bits N (masked m0 m1 codes x)) in
      let models : Models u (gates_of t m) = subst (Models u) H.gates (bits-satisfy M.formed (masked m0 m1 codes x)) in
      let g : u (result (gate_at t i)) ≡ made u (gate_at t i) = gate-of t m i models h in
      parts-made u (gate_at t i) g;
}

-- in zero tables no record stands, and no wire is marked
zeros-at : (k i : ℕ) → ◌≡◌ {A = ℕ} (get_or {A = ℕ} (replicate k 0) i 0) 0
zeros-at zero i = refl
zeros-at (suc k) zero = refl
zeros-at (suc k) (suc i) = zeros-at k i

pub holding-none : (N : Netlist) (codes : List ℕ) (a b : ℕ) {r m : List ℕ} → r ≡ replicate a 0 → m ≡ replicate b 0
    → Holding N codes r m
holding-none N codes a b {r} {m} er em =
    let zr : (i : ℕ) → get_or r i 0 ≡ 0 = λ i. ap (λ (l : List ℕ). get_or l i 0) er ∙ zeros-at a i in
    let zm : (i : ℕ) → get_or m i 0 ≡ 0 = λ i. ap (λ (l : List ℕ). get_or l i 0) em ∙ zeros-at b i in
    record {
      known = record {
        each = λ q p. absurd (p (ap (λ (n : ℕ). n % half) (zr (3 * q + 1)))
            (ap (λ (n : ℕ). n / half) (zr (3 * q + 1))));
      };
      marked = record {
        clean = λ w h. no (ap (lane 0) (sym (zm w)) ∙ h);
        public = λ w h. no (ap (lane 1) (sym (zm w)) ∙ h);
      };
    }

-- the first wire that is not marked clean
clean-low : (n : ℕ) → eqb (bit_and n 1) 0 ≡ false → lane 0 n ≡ true
clean-low n e =
    let h = eqb-false (bit_and n 1) 0 e in
    let k : bit_and n 1 ≡ n % 2 = and_mask n 1 in
    eq-eqb (n % 2) 1 (omega arith)

unmarked-low : (n : ℕ) → eqb (bit_and n 1) 0 ≡ true → lane 0 n ≡ false
unmarked-low n e =
    let h = eqb-true (bit_and n 1) 0 e in
    let k : bit_and n 1 ≡ n % 2 = and_mask n 1 in
    ne_eqb (n % 2) 1 (λ z. omega arith)

pub lowest-found : (m : List ℕ) (r : Option ℕ)
    → MatchOption r ((w : ℕ) → 0 ≤ w → w < length m → eqb (bit_and (get_or m w 0) 1) 0 ≡ false)
    (λ w. (0 ≤ w) × (w < length m) × (eqb (bit_and (get_or m w 0) 1) 0 ≡ true)
    × ((k : ℕ) → 0 ≤ k → k < w → eqb (bit_and (get_or m k 0) 1) 0 ≡ false))
    → IfSome r (λ w. (w < length m) × (lane 0 (get_or m w 0) ≡ false))
    × ((w : ℕ) → w < sure (length m) r → lane 0 (get_or m w 0) ≡ true)
lowest-found m None h = (tt, λ w l. clean-low (get_or m w 0) (h w (omega arith) l))
lowest-found m (Some v) h = (
  (h.1, unmarked-low (get_or m v 0) h.2),
  λ w l. clean-low (get_or m w 0)
      (h.3 w (omega arith) l),
)

-- what holds of a wire that is found
pub if-some : (P Q : ℕ → Type 0) (found : Option ℕ) → ((w : ℕ) → P w → Q w) → IfSome found P → IfSome found Q
if-some P Q None f p = p
if-some P Q (Some w) f p = f w p
