-- The output gates and codes, walked.
use Prim.Native.Nat.{ℕ, zero, suc, ◌+◌, ◌-◌, ◌≤◌, ◌<◌}
use mathlib.Core.Path.{◌≡◌, refl, sym, ap, ap₂, ◌∙◌}
use mathlib.Core.List.{List, [], ◌∷◌, ◌++◌, append_assoc, append-nil}
use native.Mathlib.Nat.{suc_inj}
use native.Mathlib.Numerals.{add-one}
use native.Mathlib.Omega.{arith}
use lib.ListN.{length, get_or, take, drop, length-drop, drop_of_length-le}
use lib.Seq.{take_all, drop-cons}
use Rattle.netlist.specs.declared.Gate.{Gate}
use Rattle.netlist.specs.declared.Twin.{Twin}
use Rattle.masking.specs.Mask.{out_gate, out_gates, out_code, out_codes, no_twin}
use Rattle.writer.specs.Wrote.{Wrote, top}
use Rattle.writer.specs.WrittenGates.{WroteGates}
use Rattle.writer.proofs.Writing.{wrote_then}
use Rattle.writer.proofs.GateLines.{gates-then, gates-as}
use Rattle.mask_rule.specs.State.{twins_of}
use Rattle.mask_rule.proofs.States.{twins-length}
use Rattle.mask.specs.State.{codes_of}

out-end : (n c : ℕ) (ts : List Twin) → out_gates n c ts [] ≡ []
out-end n c [] = refl
out-end n c (t ∷ ts) = refl

-- the first i output gates were written
pub record Outed (e : List ℕ) (at n c : ℕ) (ws es vs x : List ℕ) (r i : ℕ) : Type 0 where
  pub passed : i ≤ length vs
  pub done : List Gate
  pub wrote : WroteGates e at done x r
  pub left : out_gates n c (twins_of ws es) vs ≡ done ++ out_gates n (c + i) (drop i (twins_of ws es)) (drop i vs)

pub outed-more : {e ws es vs m x : List ℕ} {at n c r i s : ℕ} {t : Twin} → Outed e at n c ws es vs m r i → i < length vs
    → length ws ≡ length vs
    → length es ≡ length ws → t ≡ get_or (twins_of ws es) i no_twin
    → WroteGates m r (out_gate n (c + i) t (get_or vs i 0) ∷ []) x s
    → Outed e at n c ws es vs x s (i + 1)
outed-more {ws = ws} {es = es} {vs = vs} {n = n} {c = c} {i = i} {t = t} h l f k p a =
    let w : ℕ = c + i in
    let one : w + 1 ≡ c + (i + 1) = omega arith in
    let T : List Twin = twins_of ws es in
    let here : i < length T = rw (twins-length ws es k) (omega arith) in
    let g : Gate = out_gate n w t (get_or vs i 0) in
    let split : drop i T ≡ t ∷ drop (i + 1) T
    = drop-cons T i no_twin here ∙ ap₂ (λ (u : Twin) (q : ℕ). u ∷ drop q T) (sym p) (sym (add-one i)) in
    let split' : drop i vs ≡ get_or vs i 0 ∷ drop (i + 1) vs = rw (add-one i) (drop-cons vs i 0 l) in
    let on : out_gates n w (drop i T) (drop i vs) ≡ g ∷ out_gates n (c + (i + 1)) (drop (i + 1) T) (drop (i + 1) vs)
    = rw (← one) (ap₂ (out_gates n w) split split') in
    record {
      passed = omega arith;
      done = h.done ++ (g ∷ []);
      wrote = gates-then h.wrote a;
      left =
          h.left ∙ ap (λ (l : List Gate). h.done ++ l) on
          ∙ sym (append_assoc h.done (g ∷ []) (out_gates n (c + (i + 1)) (drop (i + 1) T) (drop (i + 1) vs)));
    }

pub outed-all : {e ws es vs x : List ℕ} {at n c r i : ℕ} → Outed e at n c ws es vs x r i → length vs ≤ i
    → WroteGates e at (out_gates n c (twins_of ws es) vs) x r
outed-all {ws = ws} {es = es} {vs = vs} {n = n} {c = c} {i = i} h l =
    let T : List Twin = twins_of ws es in
    let none : out_gates n (c + i) (drop i T) (drop i vs) ≡ [] = rw (drop_of_length-le vs {i = i} l)
    (out-end n (c + i) (drop i T)) in
    gates-as (sym (h.left ∙ ap (λ (l : List Gate). h.done ++ l) none ∙ append-nil h.done)) h.wrote

-- the twins of cut tables
twins-none : (ws : List ℕ) → twins_of ws [] ≡ []
twins-none [] = refl
twins-none (w ∷ ws) = refl

twins-drop : (k : ℕ) (ws es : List ℕ) → twins_of (drop k ws) (drop k es) ≡ drop k (twins_of ws es)
twins-drop zero ws es = refl
twins-drop (suc k) [] es = refl
twins-drop (suc k) (w ∷ ws) [] = twins-none (drop k ws)
twins-drop (suc k) (w ∷ ws) (e ∷ es) = twins-drop k ws es

-- .. from a place to the end
rest : {A : Type 0} (k : ℕ) (xs : List A) → take (length xs - k) (drop k xs) ≡ drop k xs
rest k xs = let l = length-drop k xs in take_all (length xs - k) (drop k xs) (omega arith)

pub twins-rest : (k : ℕ) (ws es : List ℕ) → twins_of (take (length ws - k) (drop k ws))
    (take (length es - k) (drop k es)) ≡ drop k (twins_of ws es)
twins-rest k ws es = rw (rest k ws, rest k es) (twins-drop k ws es)

-- the codes of the twins
pub out-codes : (ws es vs : List ℕ) (j : ℕ) → length es ≡ length ws → codes_of (drop j es) vs
    ≡ out_codes (drop j (twins_of ws es)) vs
out-codes [] [] vs zero l = refl
out-codes [] [] vs (suc j) l = refl
out-codes [] (e ∷ es) vs j l = absurd (omega arith)
out-codes (w ∷ ws) [] vs j l = absurd (omega arith)
out-codes (w ∷ ws) (e ∷ es) [] zero l = refl
out-codes (w ∷ ws) (e ∷ es) (v ∷ vs) zero l = ap (λ (k : List ℕ). out_code e v ∷ k)
    (out-codes ws es vs zero (suc_inj l))
out-codes (w ∷ ws) (e ∷ es) vs (suc j) l = out-codes ws es vs j (suc_inj l)

-- the first i output codes were written
pub record Picked (e es vs x : List ℕ) (i : ℕ) : Type 0 where
  pub passed : i ≤ length vs
  pub done : List ℕ
  pub wrote : Wrote e 0 done x i
  pub left : codes_of es vs ≡ done ++ codes_of (drop i es) (drop i vs)

pub picked_more : {e es vs m x : List ℕ} {i t b : ℕ} → Picked e es vs m i → i < length vs → length vs ≤ top → length es
    ≡ length vs
    → b ≡ out_code (get_or es i 0) (get_or vs i 0) → Wrote m i (b ∷ []) x t → Picked e es vs x t
picked_more {es = es} {vs = vs} {i = i} {t = t} {b = b} h l s f c w =
    let one : t ≡ i + 1 = omega (arith, w.next) in
    let split : drop i es ≡ get_or es i 0 ∷ drop (i + 1) es = rw (add-one i) (drop-cons es i 0 (omega arith)) in
    let split' : drop i vs ≡ get_or vs i 0 ∷ drop (i + 1) vs = rw (add-one i) (drop-cons vs i 0 l) in
    let on : codes_of (drop i es) (drop i vs) ≡ b ∷ codes_of (drop t es) (drop t vs)
    = ap₂ codes_of split split' ∙ ap₂ (λ (u j : ℕ). u ∷ codes_of (drop j es) (drop j vs)) (sym c) (sym one) in
    record {
      passed = omega arith;
      done = h.done ++ (b ∷ []);
      wrote = wrote_then h.wrote w;
      left = h.left ∙ ap (λ (l : List ℕ). h.done ++ l) on ∙ sym
          (append_assoc h.done (b ∷ []) (codes_of (drop t es) (drop t vs)));
    }
