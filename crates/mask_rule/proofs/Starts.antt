-- The inputs' twins, laid over cleared tables.
use Prim.Native.Nat.{ℕ, zero, suc, ◌+◌, ◌≤◌, ◌<◌}
use mathlib.Core.Path.{◌≡◌, refl, sym, ap, ap₂, ◌∙◌}
use mathlib.Core.List.{List, ◌∷◌, ◌++◌}
use native.Mathlib.Omega.{arith}
use lib.ListN.{length, get_or, set, drop, replicate, length-set}
use Rattle.netlist.specs.declared.Twin.{Twin}
use Rattle.masking.specs.Mask.{input_twin, input_twins, past_public, past_publics, no_twin}
use Rattle.masking.proofs.PublicGates.{length-input_twins, past-within}
use Rattle.netlist.proofs.Laid.{Laid, laid_more, laid-all, drop-replicate}
use Rattle.mask_rule.specs.State.{twins_of, Started}
use Rattle.mask_rule.proofs.States.{twins-set, twins-length}
use Rattle.mask_rule.proofs.PublicWires.{Passed, passed-more, passed-all, input-at}

-- the twins of the first i inputs are laid; the tables have kept their length
pub record Entered (c : ℕ) (cs ws₀ es₀ ws es : List ℕ) (v i : ℕ) : Type 0 where
  pub inputs : Passed c cs v i
  pub wires : length ws ≡ length ws₀
  pub codes : length es ≡ length ws₀
  pub laid : Laid no_twin (input_twins c 0 cs) (twins_of ws₀ es₀) (twins_of ws es) i

pub entered-more : {cs ws₀ es₀ ws es : List ℕ} {c v v' i : ℕ} {t : Twin} → Entered c cs ws₀ es₀ ws es v i
    → i < length cs → length cs ≤ length ws₀
    → t ≡ input_twin v i (get_or cs i 0) → v' ≡ past_public v (get_or cs i 0) → Entered c cs ws₀ es₀ (set ws i t.wire)
    (set es i t.code) v' (i + 1)
entered-more {cs} {ws = ws} {es = es} {c = c} {i = i} {t = t} h l k p q =
    let z : i ≡ 0 + i = omega arith in
    let n : length (input_twins c 0 cs) ≡ length cs = length-input_twins c 0 cs in
    let m : length (twins_of ws es) ≡ length ws = twins-length ws es (h.codes ∙ sym h.wires) in
    let here : t ≡ get_or (input_twins c 0 cs) i no_twin
    = p ∙ ap₂ (λ (u j : ℕ). input_twin u j (get_or cs i 0)) h.inputs.next z ∙ input-at c 0 cs i l in
    record {
      inputs = passed-more h.inputs l q;
      wires = length-set ws i t.wire ∙ h.wires;
      codes = length-set es i t.code ∙ h.codes;
      laid = rw (twins-set ws es i t.wire t.code) (laid_more t h.laid (omega arith) (omega (arith, h.wires)) here);
    }

pub entered_all : {cs ws₀ es₀ ws es : List ℕ} {c v i : ℕ} → Entered c cs ws₀ es₀ ws es v i → length cs ≤ i
    → (v ≡ past_publics c cs) × (twins_of ws es ≡ input_twins c 0 cs ++ drop (length cs) (twins_of ws₀ es₀))
entered_all {cs} {ws₀} {es₀} {c = c} h l =
    let n : length (input_twins c 0 cs) ≡ length cs = length-input_twins c 0 cs in (
      passed-all h.inputs l,
      laid-all h.laid (omega arith) ∙ ap
          (λ (k : ℕ). input_twins c 0 cs ++ drop k (twins_of ws₀ es₀)) n,
    )

twins-zero : (n : ℕ) → twins_of (replicate n 0) (replicate n 0) ≡ replicate n no_twin
twins-zero zero = refl
twins-zero (suc n) = ap (λ (l : List Twin). no_twin ∷ l) (twins-zero n)

-- over tables of zeros nothing stands after them
pub started : (c : ℕ) (cs ws es : List ℕ) {r : ℕ} {ws₀ es₀ ws₁ es₁ : List ℕ} → length es ≡ length ws → ws₀
    ≡ replicate (length ws) 0
    → es₀ ≡ replicate (length es) 0 → (r ≡ past_publics c cs)
    × (twins_of ws₁ es₁ ≡ input_twins c 0 cs ++ drop (length cs) (twins_of ws₀ es₀))
    → Started c cs (length ws) r ws₁ es₁
started c cs ws es l y z h = record {
  next = h.0;
  twins =
      h.1
      ∙ ap (λ (q : List Twin). input_twins c 0 cs ++ drop (length cs) q)
      (ap₂ twins_of y (z ∙ ap (λ (n : ℕ). replicate n 0) l) ∙ twins-zero (length ws))
      ∙ ap (λ (q : List Twin). input_twins c 0 cs ++ q) (drop-replicate (length cs) (length ws) no_twin);
}

-- at most one wire for each input
pub started-most : {c W r : ℕ} {cs ws es : List ℕ} → Started c cs W r ws es → r ≤ c + length cs
started-most {c} {cs = cs} h = omega (arith, h.next, (past-within c cs).1)
