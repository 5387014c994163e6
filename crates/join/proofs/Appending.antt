-- The second's gates that a loop puts after the first's, one a turn.
use Prim.Native.Nat.{ℕ, ◌+◌, ◌*◌, ◌/◌, ◌%◌, ◌≤◌, ◌<◌}
use mathlib.Core.Path.{◌≡◌, refl, sym, ap, ap₂, ◌∙◌, subst}
use mathlib.Core.Bool.{Bool, true, false, cond}
use mathlib.Core.List.{List, [], ◌∷◌, ◌++◌, map, map-append, append_assoc}
use native.Mathlib.Omega.{arith}
use lib.Dec.{eqb}
use lib.ListN.{length, get_or, length-set}
use Rattle.netlist.specs.declared.Gate.{Gate}
use Rattle.netlist.specs.declared.Gate.TheVariants.{Xor, And, Inv, Eqw, Eq}
use Rattle.netlist.specs.Table.{Tables, half, gate_of, gate_in, gate_at, gates_of, put_entry, Named, Wired}
use Rattle.netlist.proofs.Puts.{entry-low, entry-high, gates-more, Room, gates-put, wired-put}
use Rattle.join.specs.Join.{renumbered}
use Rattle.join.proofs.Wires.{moved-input, moved-pair, moved-further, on-wire}
use Rattle.join.specs.declared.seam.SeamNumbers.{SeamNumbers}
use Rattle.join.specs.Appended.{wires_of, goes_to, Appended}

-- a joined wire is below the joined W
pub goes-below : (s : SeamNumbers) (w : ℕ) → w < s.second → goes_to s w < wires_of s
goes-below s w h =
    let M = s.meeting in
    let W = s.wires in
    let o = s.outs in
    let i = s.ins in
    let n = s.inner in
    let a : o ≤ W = M.outs in
    let b : 2 ≤ i = M.pair in
    let c : i ≤ W = M.ins in
    let d : o + 2 ≡ n = M.meets in
    let e : n ≤ s.second = M.inner in
    on-wire n w
    (λ k. rw (moved-input W o i n w k) (omega arith))
    (λ l k. rw (moved-pair W o i n w l k) (omega arith))
    (λ l. rw (moved-further W o i n w l) (omega arith))

-- and fits half an entry
pub goes-fits : (s : SeamNumbers) (w : ℕ) → w < s.second → goes_to s w < half
goes-fits s w h =
    let b : goes_to s w < wires_of s = goes-below s w h in
    let f : wires_of s < half = s.meeting.fits in
    omega arith

-- the gate of renumbered entries: an operand that the kind does not read does not matter
module _ (f : ℕ → ℕ) where
  renumbered-test : (b : Bool) (g h : Gate) → cond b (renumbered f g) (renumbered f h) ≡ renumbered f (cond b g h)
  renumbered-test true g h = refl
  renumbered-test false g h = refl

  gate-renumbered : (k a b c : ℕ) → gate_of k (f a) (f b) (f c) ≡ renumbered f (gate_of k a b c)
  gate-renumbered k a b c =
      let g₅ = cond (eqb k 5) (Eq 0 c) (Eq 1 c) in
      let g₄ = cond (eqb k 4) (Eqw a c) g₅ in
      let g₃ = cond (eqb k 3) (Inv a c) g₄ in
      let g₂ = cond (eqb k 2) (And a b c) g₃ in
      ap (cond (eqb k 1) (Xor (f a) (f b) (f c)))
      (ap (cond (eqb k 2) (And (f a) (f b) (f c)))
      (ap (cond (eqb k 3) (Inv (f a) (f c)))
      (ap (cond (eqb k 4) (Eqw (f a) (f c))) (renumbered-test (eqb k 5) (Eq 0 c) (Eq 1 c))
      ∙ renumbered-test (eqb k 4) (Eqw a c) g₅)
      ∙ renumbered-test (eqb k 3) (Inv a c) g₄)
      ∙ renumbered-test (eqb k 2) (And a b c) g₃)
      ∙ renumbered-test (eqb k 1) (Xor a b c) g₂

-- the entries of a gate of the second, renumbered
module _ (s : SeamNumbers) {o r : ℕ} (N : Named s.second o r) where
  abbrev f : ℕ → ℕ
  f = goes_to s

  abbrev o' : ℕ
  o' = f (o % half) + f (o / half) * half

  abbrev r' : ℕ
  r' = f (r % half) + r / half * half

  left-fits : f (o % half) < half
  left-fits = goes-fits s (o % half) N.left

  result_fits : f (r % half) < half
  result_fits = goes-fits s (r % half) N.result

  pub entry-gate : gate_in o' r' ≡ renumbered f (gate_in o r)
  entry-gate =
      rw (
        entry-low (f (o % half)) (f (o / half)) left-fits,
        entry-high (f (o % half)) (f (o / half)) left-fits,
        entry-low (f (r % half)) (r / half) result_fits,
        entry-high (f (r % half)) (r / half) result_fits,
      )
      (gate-renumbered f (r / half) (o % half) (o / half) (r % half))

  pub entry_named : Named (wires_of s) o' r'
  entry_named = record {
    kind = rw (entry-high (f (r % half)) (r / half) result_fits) N.kind;
    left = rw (entry-low (f (o % half)) (f (o / half)) left-fits) (goes-below s (o % half) N.left);
    right = rw (entry-high (f (o % half)) (f (o / half)) left-fits) (goes-below s (o / half) N.right);
    result = rw (entry-low (f (r % half)) (r / half) result_fits) (goes-below s (r % half) N.result);
  }

-- one more
pub appending-more : {s : SeamNumbers} {t v u : Tables} {m k i : ℕ} {o r : ℕ} → Wired v s.second k
    → m + k ≤ length t.operands
    → m + k ≤ length t.results → Appended s t m v i u → i < k
    → o ≡ goes_to s (get_or v.operands i 0 % half) + goes_to s (get_or v.operands i 0 / half) * half
    → r ≡ goes_to s (get_or v.results i 0 % half) + get_or v.results i 0 / half * half
    → Appended s t m v (i + 1) (put_entry u (m + i) o r)
appending-more {s} {t} {v} {u} {m} {k} {i} {o} {r} w p q a h d e =
    let f = renumbered (goes_to s) in
    let N = w.each i h in
    let x = get_or v.operands i 0 in
    let y = get_or v.results i 0 in
    let lo : length u.operands ≡ length t.operands = a.operands in
    let lr : length u.results ≡ length t.results = a.results in
    let room : Room u (m + i) = record { operands = omega arith; results = omega arith } in
    let n : Named (wires_of s) o r = rw (d, e) (entry_named s N) in
    let g : gate_in o r ≡ f (gate_at v i) = ap₂ gate_in d e ∙ entry-gate s N in
    let next : m + i + 1 ≡ m + (i + 1) = omega arith in
    let all : gates_of (put_entry u (m + i) o r) (m + (i + 1)) ≡ gates_of t m ++ map f (gates_of v (i + 1))
    = ap (gates_of (put_entry u (m + i) o r)) (sym next)
    ∙ gates-put u (m + i) o r room
    ∙ ap₂ (λ (gs : List Gate) (z : Gate). gs ++ (z ∷ [])) a.gates g
    ∙ append_assoc (gates_of t m) (map f (gates_of v i)) (f (gate_at v i) ∷ [])
    ∙ ap (λ (gs : List Gate). gates_of t m ++ gs)
    (sym (ap (map f) (gates-more v i) ∙ map-append f (gates_of v i) (gate_at v i ∷ []))) in
    record {
      gates = all;
      wired = subst (Wired (put_entry u (m + i) o r) (wires_of s)) next
          (wired-put u (m + i) o r room (wires_of s) a.wired n);
      operands = length-set u.operands (m + i) o ∙ lo;
      results = length-set u.results (m + i) r ∙ lr;
    }
