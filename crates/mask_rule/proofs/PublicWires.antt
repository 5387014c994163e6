-- The inputs walked: their twins, and the wire after the gates of the public bits.
use Prim.Native.Nat.{ℕ, zero, suc, ◌+◌, ◌≤◌, ◌<◌}
use mathlib.Core.Path.{◌≡◌, refl, sym, ap, ◌∙◌}
use mathlib.Core.List.{List, [], ◌∷◌}
use native.Mathlib.Nat.{not-suc-le-zero, le_of_suc-le-suc}
use native.Mathlib.Numerals.{add-one}
use native.Mathlib.Omega.{arith}
use lib.ListN.{length, get_or, take}
use lib.Seq.{take_all}
use Rattle.masking.specs.Mask.{is_public, input_twin, input_twins, past_public, past_publics, no_twin}
use Rattle.netlist.proofs.Tests.{on_bool}

past_more : (c : ℕ) (es : List ℕ) (i : ℕ) → i < length es → past_publics c (take (suc i) es)
    ≡ past_public (past_publics c (take i es)) (get_or es i 0)
past_more c [] i h = absurd (not-suc-le-zero h)
past_more c (e ∷ es) zero h = refl
past_more c (e ∷ es) (suc i) h = past_more (past_public c e) es i (le_of_suc-le-suc h)

past-most : (c e : ℕ) → past_public c e ≤ c + 1
past-most c e = on_bool (is_public e) (λ z. rw z (omega arith)) (λ z. rw z (omega arith))

pub input-at : (c k : ℕ) (es : List ℕ) (i : ℕ) → i < length es
    → input_twin (past_publics c (take i es)) (k + i) (get_or es i 0) ≡ get_or (input_twins c k es) i no_twin
input-at c k [] i h = absurd (not-suc-le-zero h)
input-at c k (e ∷ es) zero h = let z : k + 0 ≡ k = omega arith in ap (λ (w : ℕ). input_twin c w e) z
input-at c k (e ∷ es) (suc i) h =
    let z : k + suc i ≡ k + 1 + i = omega arith in
    ap (λ (w : ℕ). input_twin (past_publics (past_public c e) (take i es)) w (get_or es i 0)) z
    ∙ input-at (past_public c e) (k + 1) es i (le_of_suc-le-suc h)

-- the first i inputs were passed: the next wire is v
pub record Passed (c : ℕ) (cs : List ℕ) (v i : ℕ) : Type 0 where
  pub passed : i ≤ length cs
  pub next : v ≡ past_publics c (take i cs)
  pub most : v ≤ c + i

pub passed-more : {c v v' i : ℕ} {cs : List ℕ} → Passed c cs v i → i < length cs → v' ≡ past_public v (get_or cs i 0)
    → Passed c cs v' (i + 1)
passed-more {c} {v} {i = i} {cs = cs} h l p =
    let e : ℕ = get_or cs i 0 in
    record {
      passed = omega arith;
      next = p ∙ ap (λ (u : ℕ). past_public u e) h.next ∙ sym (ap (λ (j : ℕ). past_publics c (take j cs)) (add-one i)
          ∙ past_more c cs i l);
      most = omega (arith, h.most, past-most v e);
    }

pub passed-all : {c v i : ℕ} {cs : List ℕ} → Passed c cs v i → length cs ≤ i → v ≡ past_publics c cs
passed-all {c} {i = i} {cs = cs} h l = h.next ∙ ap (past_publics c) (take_all i cs l)
