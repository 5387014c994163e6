-- The gate lines written so far, and a text that is not measured.
use Rattle.std.proofs.Common.{inl, inr, ◌⊎◌}
use Prim.Native.Nat.{ℕ, suc, ◌+◌, ◌-◌, ◌*◌, ◌≤◌, ◌<◌}
use mathlib.Core.Path.{◌≡◌, sym, ap, ◌∙◌}
use mathlib.Core.Bool.{true}
use mathlib.Core.List.{List, [], ◌∷◌}
use native.Mathlib.Nat.{lt_of_le_of_lt}
use native.Mathlib.Omega.{arith}
use native.Mathlib.Numerals.{add-one}
use lib.Dec.{leb, lit<}
use lib.ListN.{length, get_or, take, drop, length-drop}
use lib.Seq.{drop-cons, get_or-take, length-take-le}
use Rattle.netlist.specs.Write.{gate_text}
use Rattle.netlist.specs.Table.{Tables, gate_in, gate_at, gates_of, Wired}
use Rattle.netlist.proofs.Puts.{gates-more}
use Rattle.netlist.proofs.Size.{wired-lines}
use Rattle.writer.specs.Wrote.{Wrote, top}
use Rattle.writer.specs.WrittenGates.{WroteGates}
use Rattle.write_netlist.specs.Header.{header_text_in}
use Rattle.dialect.specs.declared.Dialect.{Dialect}
use Rattle.writer.specs.Room.{longest_line}
use Rattle.writer.proofs.GateLines.{gates-then, gates-as}
use Rattle.writer.proofs.Delivering.{ample-holds}
use Rattle.write_netlist.specs.Form.{form_text_in}

pub record Forming (e : List ℕ) (at : ℕ) (t : Tables) (n : ℕ) (x : List ℕ) (r i : ℕ) : Type 0 where
  pub passed : i ≤ n
  pub wrote : WroteGates e at (gates_of t i) x r

pub forming-more : {e m x : List ℕ} {at r s n i : ℕ} {t : Tables} → Forming e at t n m r i → i < n
    → WroteGates m r (gate_at t i ∷ []) x s
    → Forming e at t n x s (i + 1)
forming-more {i = i} {t = t} f h w = record {
  passed = omega arith;
  wrote = gates-as (sym (gates-more t i))
      (gates-then f.wrote w);
}

-- the lines of the first k gates were written, and these entries of the two tables are left
pub record Zipped (e : List ℕ) (at : ℕ) (t : Tables) (n : ℕ) (x : List ℕ) (r k : ℕ) (os rs : List ℕ) : Type 0 where
  pub forming : Forming e at t n x r k
  pub operands : os ≡ drop k (take n t.operands)
  pub results : rs ≡ drop k (take n t.results)

pub zipped-as : {e x os rs : List ℕ} {at r n j k : ℕ} {t : Tables} → j ≡ k → Zipped e at t n x r j os rs
    → Zipped e at t n x r k os rs
zipped-as p z = rw p at z

-- the first entry that is left
left-first : (n k : ℕ) (xs : List ℕ) {y : ℕ} {ys : List ℕ} → n ≤ length xs → k < n → y ∷ ys ≡ drop k (take n xs)
    → (y ≡ get_or xs k 0) × (ys ≡ drop (k + 1) (take n xs))
left-first n k xs {y} {ys} l h e =
    let w : y ∷ ys ≡ get_or (take n xs) k 0 ∷ drop (suc k) (take n xs) = e
    ∙ drop-cons (take n xs) k 0 (omega (arith, h, length-take-le n xs l)) in
    let a : y ≡ get_or (take n xs) k 0 = cc in
    let b : ys ≡ drop (suc k) (take n xs) = cc in
    (a ∙ get_or-take n xs k 0 h, rw add-one b)

left-length : (n k : ℕ) (xs ys : List ℕ) → n ≤ length xs → ys ≡ drop k (take n xs) → length ys ≡ n - k
left-length n k xs ys l e = ap length e ∙ length-drop k (take n xs) ∙ ap (λ (m : ℕ). m - k) (length-take-le n xs l)

pub zipped-more : {e m x os rs : List ℕ} {at r s n k o q : ℕ} {t : Tables} → n ≤ length t.operands
    → n ≤ length t.results
    → Zipped e at t n m r k (o ∷ os) (q ∷ rs) → WroteGates m r (gate_in o q ∷ []) x s → Zipped e at t n x s (k + 1) os
    rs
zipped-more {os = os} {n = n} {k = k} {o = o} {t = t} f g z w =
    let h : k < n = omega (arith, left-length n k t.operands (o ∷ os) f z.operands) in
    let a = left-first n k t.operands f h z.operands in
    let b = left-first n k t.results g h z.results in
    record { forming = forming-more z.forming h (rw (a.0, b.0) at w); operands = a.1; results = b.1 }

-- no entry is left
pub zipped-all : {e x os rs : List ℕ} {at r n k : ℕ} {t : Tables} → n ≤ length t.operands → n ≤ length t.results
    → Zipped e at t n x r k os rs → (length os ≡ 0) ⊎ (length rs ≡ 0) → WroteGates e at (gates_of t n) x r
zipped-all {os = os} {rs = rs} {n = n} {k = k} {t = t} f g z d =
    let all : n ≤ k = elim d [
      | inl p ↦ omega (arith, p, left-length n k t.operands os f z.operands)
      | inr p ↦ omega
          (arith, p, left-length n k t.results rs g z.results)
    ] in
    let same : k ≡ n = omega (arith, all, z.forming.passed) in
    rw same at z.forming.wrote

-- question 14 without measuring: no line is longer than the longest
pub form-ample : (dialect : Dialect) {t : Tables} (count W : ℕ) (ins outs : List ℕ) {e x : List ℕ} {header room : ℕ}
    → W ≤ top → Wired t W count
    → Wrote e 0 (header_text_in dialect count W ins outs) x header → room < top → leb (header + count * longest_line W)
    room ≡ true
    → leb (length (form_text_in dialect count W ins outs t)) room ≡ true
form-ample dialect {t} count W ins outs small h w =
    ample-holds {h = header_text_in dialect count W ins outs} (gate_text (gates_of t count)) w
    (wired-lines (lt_of_le_of_lt small (lit< tt)) h)
