-- The walk over the table of the masked AND's steps.
use Prim.Native.Nat.{ℕ, zero, suc, ◌+◌, ◌≤◌, ◌<◌}
use mathlib.Core.Path.{◌≡◌, sym, ap, ◌∙◌}
use mathlib.Core.Bool.{Bool, true, ◌&&◌}
use mathlib.Core.List.{List, [], ◌∷◌, ◌++◌, map, append_assoc}
use native.Mathlib.Nat.{not-suc-le-zero, le_of_suc-le-suc}
use native.Mathlib.Numerals.{add-one}
use native.Mathlib.Omega.{arith}
use lib.Dec.{T, eqb, ltb, ltb→lt}
use lib.ListN.{length, get_or, set, take, drop, length-set, length-map, get_or-map}
use lib.Seq.{get_or-take, take-suc-set, drop-cons}
use Rattle.netlist.specs.declared.Gate.{Gate}
use Rattle.masking.specs.Mask.{Row, row, rows, row_gate, row_gates}
use Rattle.netlist.proofs.Tests.{both}
use Rattle.writer.specs.WrittenGates.{WroteGates}
use Rattle.writer.proofs.GateLines.{gates-then}
use Rattle.mask.specs.Row.{row_of}

-- entry j of row i
abbrev pub cell : List (List ℕ) → ℕ → ℕ → ℕ
cell t i j = get_or (get_or t i []) j 0

-- the step that a row stands for
abbrev pub step_of : List ℕ → Row
step_of r = row (eqb (get_or r 0 0) 1) (get_or r 1 0) (get_or r 2 0)

-- a row reads places below k
abbrev pub reads : ℕ → List ℕ → Bool
reads k r = ltb (get_or r 1 0) k && ltb (get_or r 2 0) k

-- each row of a table reads places below its own wire's, which is k for the first
abbrev pub reads_earlier : ℕ → List (List ℕ) → Bool
reads_earlier k [] = true
reads_earlier k (r ∷ t) = reads k r && reads_earlier (suc k) t

-- a table whose rows are the seven steps, each of which reads places that are filled by then
pub record Steps (t : List (List ℕ)) : Type 0 where
  pub same : map step_of t ≡ rows
  pub filled : T (reads_earlier 5 t)

-- row i of such a table
pub record RowAt (t : List (List ℕ)) (i : ℕ) : Type 0 where
  pub here : drop i rows ≡ step_of (get_or t i []) ∷ drop (suc i) rows
  pub first : cell t i 1 < 5 + i
  pub second : cell t i 2 < 5 + i

earlier-at : (k : ℕ) (t : List (List ℕ)) (i : ℕ) → i < length t → T (reads_earlier k t)
    → T (reads (k + i) (get_or t i []))
earlier-at k [] i h e = absurd (not-suc-le-zero h)
earlier-at k (r ∷ t) zero h e = let z : k + 0 ≡ k = omega arith in rw z (both (reads k r) (reads_earlier (suc k) t) e).0
earlier-at k (r ∷ t) (suc i) h e =
    let z : k + suc i ≡ suc k + i = omega arith in
    rw z (earlier-at (suc k) t i (le_of_suc-le-suc h) (both (reads k r) (reads_earlier (suc k) t) e).1)

pub row_at : {t : List (List ℕ)} {i : ℕ} → Steps t → i < 7 → RowAt t i
row_at {t} {i} s h =
    let long : length t ≡ 7 = sym (length-map t step_of) ∙ ap length s.same in
    let p = both (ltb (cell t i 1) (5 + i)) (ltb (cell t i 2) (5 + i)) (earlier-at 5 t i (omega arith) s.filled) in
    record {
      here =
          drop-cons rows i (step_of []) h
          ∙ ap (λ (r : Row). r ∷ drop (suc i) rows) (ap (λ (l : List Row). get_or l i (step_of [])) (sym s.same)
          ∙ get_or-map step_of t i []);
      first = ltb→lt (cell t i 1) (5 + i) p.0;
      second = ltb→lt (cell t i 2) (5 + i) p.1;
    }

-- the first i rows of the table t were written; `places` holds the operands ps and these steps' wires
pub record Walked (t : List (List ℕ)) (e : List ℕ) (at : ℕ) (ps : List ℕ) (c : ℕ) (x places : List ℕ) (r i : ℕ) : Type 0
  where
    pub steps : Steps t
    pub passed : i ≤ 7
    pub long : length places ≡ 12
    pub done : List Gate
    pub wrote : WroteGates e at done x r
    pub left : row_gates rows ps c ≡ done ++ row_gates (drop i rows) (take (5 + i) places) (c + i)

pub walked_more : {t : List (List ℕ)} {e ps m x places : List ℕ} {at c r i s : ℕ} → Walked t e at ps c m places r i
    → i < 7
    → WroteGates m r (row_of (eqb (cell t i 0) 1) (get_or places (cell t i 1) 0) (get_or places (cell t i 2) 0) (c + i)
    ∷ []) x s
    → Walked t e at ps c x (set places (5 + i) (c + i)) s (i + 1)
walked_more {t} {ps = ps} {places = places} {c = c} {i = i} h l a =
    let w : ℕ = c + i in
    let one : w + 1 ≡ c + (i + 1) = omega arith in
    let R = row_at h.steps l in
    let g : Gate = row_of (eqb (cell t i 0) 1) (get_or places (cell t i 1) 0) (get_or places (cell t i 2) 0) w in
    let five : 5 + (i + 1) ≡ suc (5 + i) = omega arith in
    let inside : 5 + i < length places = omega (arith, h.long) in
    let grown : take (5 + (i + 1)) (set places (5 + i) w) ≡ take (5 + i) places ++ (w ∷ [])
    = rw five (take-suc-set places (5 + i) w inside) in
    let same : row_gate (step_of (get_or t i [])) (take (5 + i) places) w ≡ g
    = rw (get_or-take (5 + i) places (cell t i 1) 0 R.first, get_or-take (5 + i) places (cell t i 2) 0 R.second) in
    let next : row_gates (drop i rows) (take (5 + i) places) w ≡ g ∷ row_gates (drop (i + 1) rows)
    (take (5 + (i + 1)) (set places (5 + i) w)) (c + (i + 1))
    = rw (← one) (rw (R.here, grown, add-one i)
    (ap (λ (q : Gate). q ∷ row_gates (drop (suc i) rows) (take (5 + i) places ++ (w ∷ [])) (w + 1)) same)) in
    record {
      steps = h.steps;
      passed = omega arith;
      long = length-set places (5 + i) w ∙ h.long;
      done = h.done ++ (g ∷ []);
      wrote = gates-then h.wrote a;
      left =
          h.left ∙ ap (λ (l : List Gate). h.done ++ l) next
          ∙ sym (append_assoc h.done (g ∷ []) (row_gates (drop (i + 1) rows) (take (5 + (i + 1)) (set places (5 + i) w))
          (c + (i + 1))));
    }
