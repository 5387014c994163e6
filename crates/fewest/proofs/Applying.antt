-- A choice put to use: one entry more, and what the tables hold then.
use Prim.Native.Nat.{ℕ, zero, suc, ◌+◌, ◌%◌, ◌≤◌, ◌<◌}
use mathlib.Core.Path.{◌≡◌, refl, sym, ap, ap₂, ◌∙◌}
use mathlib.Core.List.{List, [], ◌∷◌, ◌++◌}
use native.Mathlib.Nat.{mod-eq_of_lt}
use native.Mathlib.Omega.{arith}
use lib.Dec.{eqb}
use borrow.Author.Tests.{eqb-true, eqb-false}
use lib.ListN.{length, get_or, set, take, drop, length-set}
use Rattle.std.proofs.lemmas.List.{get_or-drop}
use lib.Seq.{get_or-set_same, get_or-set_other, get_or-take, ext_get_or, length-take-le}
use Rattle.netlist.specs.declared.Gate.{Gate}
use Rattle.netlist.specs.Table.{tables, gate_at, gates_of, Wired}
use Rattle.netlist.proofs.Tests.{on_bool}
use Rattle.netlist.proofs.Puts.{length-gates}
use Rattle.fewest.specs.Choice.{Choice, Agree, input_ways, chosen_code, chosen_gate, chosen_gates, chosen_inputs}
use Rattle.fewest.proofs.Chosen.{length-chosen_codes}
use Rattle.fewest.proofs.Same.{chosen-append}
use Rattle.fewest.specs.Advance.{choice_of}
use Rattle.fewest.proofs.Filling.{chosen-code-at}
use Rattle.fewest.specs.Ends.{free_code}
use Rattle.fewest.specs.Apply.{SwapsEntry, Swapped, Chosen}

-- ---- the loop over the gates

pub swapping-more : {r way o₀ o : List ℕ} {i x : ℕ} → Swapped r i way o₀ o → i < length o₀
    → SwapsEntry (get_or way i 0) (get_or o i 0) (get_or r i 0) x → Swapped r (i + 1) way o₀ (set o i x)
swapping-more {r} {way} {o₀} {o} {i} {x} I l E =
    let s = I.size in
    let k : get_or o i 0 ≡ get_or o₀ i 0 = I.kept i (omega arith) in
    let E' : SwapsEntry (get_or way i 0) (get_or o₀ i 0) (get_or r i 0) x = rw k at E in
    record {
      each = λ j b. on_bool (eqb j i)
          (λ t. let e = eqb-true j i t in rw (e, get_or-set_same o i x 0 (omega arith)) E')
          (λ t. let e : j ≡ i → ⊥ = eqb-false j i t in rw (get_or-set_other o i j x 0 e) (I.each j (omega arith)));
      kept = λ j b. get_or-set_other o i j x 0 (λ e. omega arith) ∙ I.kept j (omega arith);
      size = length-set o i x ∙ s;
    }

-- the results of just these gates, cut from a longer table
pub swapped-cut : {r ways o₀ o : List ℕ} (count : ℕ) → count ≤ length r → Swapped (take count r) (length (take count r))
    ways o₀ o
    → Swapped r count ways o₀ o
swapped-cut {r} count h S =
    let l = length-take-le count r h in
    record {
      each = λ j b. rw (get_or-take count r j 0 b) at (S.each j (omega arith));
      kept = λ j b. S.kept j (omega arith);
      size = S.size;
    }

-- ---- what the tables hold then

module _ {r o₀ o : List ℕ} where
  pub gates-chosen : (n : ℕ) (way : List ℕ) (count : ℕ) → Swapped r count (drop n way) o₀ o
      → gates_of (tables o r) count ≡ chosen_gates (choice_of way) n (gates_of (tables o₀ r) count)
  gates-chosen n way count S = go count (omega arith)
    where
      go : (k : ℕ) → k ≤ count → gates_of (tables o r) k ≡ chosen_gates (choice_of way) n (gates_of (tables o₀ r) k)
      go zero h = refl
      go (suc k) h =
          let gs = gates_of (tables o₀ r) k in
          ap₂ (λ (xs : List Gate) (x : Gate). xs ++ (x ∷ [])) (go k (omega arith))
          ((S.each k (omega arith)).gate ∙ ap (λ (q : ℕ). chosen_gate q (gate_at (tables o₀ r) k))
          (get_or-drop n way k 0))
          ∙ ap (λ (q : ℕ). chosen_gates (choice_of way) n gs
          ++ (chosen_gate (choice_of way (n + q)) (gate_at (tables o₀ r) k) ∷ []))
          (sym (length-gates (tables o₀ r) k))
          ∙ sym (chosen-append (choice_of way) n gs (gate_at (tables o₀ r) k ∷ []))

  pub wired-chosen : {count W : ℕ} {ways : List ℕ} → Swapped r count ways o₀ o → Wired (tables o₀ r) W count
      → Wired (tables o r) W count
  wired-chosen S H = record {
    operands = omega (arith, H.operands, S.size);
    results = H.results;
    each = λ i h.
        let e = H.each i h in
        let s = S.each i h in
        record { kind = e.kind; left = s.left _ e.left e.right; right = s.right _ e.left e.right; result = e.result };
  }

free-code : (e d : ℕ) → d < input_ways e → free_code e d ≡ chosen_code d e
free-code e d h =
    on_bool (eqb e 4)
    (λ z. let l : d < 3 = rw z at h in let m : d % 4 ≡ d = mod-eq_of_lt (omega arith) in rw (z, m) refl)
    (λ z. rw z refl)

-- the codes of a choice that takes one of its ways at each input
pub codes-chosen : (codes way : List ℕ) {u₀ u : List ℕ} (d : Choice) → Chosen codes way (length codes) u₀ u
    → length codes ≤ length u₀
    → Agree (length codes) (choice_of way) d → ((w : ℕ) → w < length codes → d w < input_ways (get_or codes w 0))
    → take (length codes) u ≡ chosen_inputs codes d
codes-chosen codes way {u₀} {u} d C l a t =
    let s = C.size in
    let lc = length-chosen_codes d 0 codes in
    let lt : length (take (length codes) u) ≡ length codes = length-take-le (length codes) u (omega arith) in
    ext_get_or 0 (take (length codes) u) (chosen_inputs codes d) (lt ∙ sym lc)
    (λ i h.
    let b : i < length codes = omega arith in
    let w : choice_of way i ≡ d i = a i b in
    let x : choice_of way i < input_ways (get_or codes i 0) = (let y = t i b in omega arith) in
    let z : 0 + i ≡ i = omega arith in
    get_or-take (length codes) u i 0 b ∙ C.filled i b ∙ free-code (get_or codes i 0) (choice_of way i) x
    ∙ ap (λ (q : ℕ). chosen_code q (get_or codes i 0)) w
    ∙ sym (chosen-code-at d 0 codes i b ∙ ap (λ (q : ℕ). chosen_code (d q) (get_or codes i 0)) z))
