-- The gates made of literals and of an AND line: they stand in order, and carry the bits of the file.
use Prim.Native.Nat.{ℕ, zero, suc, ◌+◌, ◌≤◌, ◌<◌}
use mathlib.Core.Path.{◌≡◌, refl, sym, ap, ap₂, ◌∙◌}
use mathlib.Core.Bool.{Bool, true, false, not, ◌&&◌}
use mathlib.Core.List.{List, [], ◌∷◌, ◌++◌, map}
use native.Mathlib.Omega.{arith}
use lib.Dec.{T, eqb, ltb, lt→ltb}
use lib.ListN.{length, get_or}
use Rattle.netlist.specs.Lists.{every, member}
use Rattle.netlist.specs.Netlist.{result}
use Rattle.netlist.specs.Read.{operands_given}
use Rattle.netlist.specs.Eval.{made, bit}
use Rattle.netlist.proofs.Tests.{both, all_head, all_tail, all_split}
use Rattle.netlist.proofs.Models.{Models}
use Rattle.netlist.proofs.Order.{Ordered, end, step, ordered-append, ordered-length, two-below}
use Rattle.aiger.specs.File.{Literal, constant, plain, inverse, AndLine}
use Rattle.aiger.specs.Rules.{readable}
use Rattle.aiger.specs.Outputs.{literal_bit}
use Rattle.aiger.specs.Made.{Made, operand, and_made, out_gate, out_gates, Located}

-- ---- order

-- the gates of an operand from wire c on, and its own wire among those that stand then
pub record InOrder (c : ℕ) (M : Made) : Type 0 where
  pub gates : Ordered c M.gates M.next
  pub wire : M.wire < M.next

-- the next wire does not fall
pub order-next : {c : ℕ} {M : Made} → InOrder c M → c ≤ M.next
order-next o = let l = ordered-length o.gates in omega arith

pub bit-small : (b : Bool) → T (ltb (bit b) 2)
bit-small true = tt
bit-small false = tt

module _ (at : ℕ → ℕ) (given : List ℕ) where
  pub operand-order : (l : Literal) (c : ℕ) → Located at c given → T (readable given l) → InOrder c (operand at l c)
  operand-order (constant b) c h t = record { gates = step refl (bit-small b) end; wire = omega arith }
  operand-order (plain v) c h t = record { gates = end; wire = h v t }
  operand-order (inverse v) c h t = record { gates = step refl (lt→ltb (at v) c (h v t)) end; wire = omega arith }

  pub and-order : (a : AndLine) (c : ℕ) → Located at c given → T (readable given a.first) → T (readable given a.second)
      → InOrder c (and_made at a c)
  and-order a c h s t =
      let L = operand at a.first c in
      let R = operand at a.second L.next in
      let l : InOrder c L = operand-order a.first c h s in
      let m : c ≤ L.next = order-next l in
      let r : InOrder L.next R = operand-order a.second L.next (λ v q. let k = h v q in omega arith) t in
      let n : L.next ≤ R.next = order-next r in
      let w : L.wire < L.next = l.wire in
      record {
        gates = ordered-append (ordered-append l.gates r.gates)
            (step refl (two-below L.wire R.wire R.next (omega arith) r.wire) end);
        wire = omega arith;
      }

  pub out-order : (l : Literal) (c d : ℕ) → c ≤ d → Located at c given → T (readable given l)
      → T (operands_given (λ w. ltb w d) (out_gate at l d))
  out-order (constant b) c d e h t = bit-small b
  out-order (plain v) c d e h t = let k = h v t in lt→ltb (at v) d (omega arith)
  out-order (inverse v) c d e h t = let k = h v t in lt→ltb (at v) d (omega arith)

out-result : (at : ℕ → ℕ) (l : Literal) (c : ℕ) → result (out_gate at l c) ≡ c
out-result at (constant b) c = refl
out-result at (plain v) c = refl
out-result at (inverse v) c = refl

pub outs-order : (at : ℕ → ℕ) (given : List ℕ) (ls : List Literal) (c d : ℕ) → c ≤ d → Located at c given
    → T (every (readable given) ls)
    → Ordered d (out_gates at d ls) (d + length ls)
outs-order at given [] c d e h t = let z : d + 0 ≡ d = omega arith in rw z end
outs-order at given (l ∷ ls) c d e h t =
    let p = both (readable given l) (every (readable given) ls) t in
    let z : d + suc (length ls) ≡ d + 1 + length ls = omega arith in
    rw z (step (out-result at l d) (out-order at given l c d e h p.0)
    (outs-order at given ls c (d + 1) (omega arith) h p.1))

-- ---- bits

bit-one : (b : Bool) → eqb (bit b) 1 ≡ b
bit-one true = refl
bit-one false = refl

-- bits w of wires carry the bits u of the given variables
abbrev pub Carry : (ℕ → Bool) → (ℕ → ℕ) → (ℕ → Bool) → List ℕ → Type 0
Carry w at u given = (v : ℕ) → T (member v given) → w (at v) ≡ u v

module _ (w : ℕ → Bool) (at : ℕ → ℕ) (u : ℕ → Bool) (given : List ℕ) (h : Carry w at u given) where
  operand-bit : (l : Literal) (c : ℕ) → T (readable given l) → Models w (operand at l c).gates → w (operand at l c).wire
      ≡ literal_bit u l
  operand-bit (constant b) c t ms = all_head ms ∙ bit-one b
  operand-bit (plain v) c t ms = h v t
  operand-bit (inverse v) c t ms = all_head ms ∙ ap not (h v t)

  pub and-bit : (a : AndLine) (c : ℕ) → T (readable given a.first) → T (readable given a.second)
      → Models w (and_made at a c).gates
      → w (and_made at a c).wire ≡ (literal_bit u a.first && literal_bit u a.second)
  and-bit a c s t ms =
      let L = operand at a.first c in
      let R = operand at a.second L.next in
      let p = all_split (L.gates ++ R.gates) ms in
      let q = all_split L.gates p.0 in
      all_head p.1 ∙ ap₂ ◌&&◌ (operand-bit a.first c s q.0) (operand-bit a.second L.next t q.1)

  out-bit : (l : Literal) (c : ℕ) → T (readable given l) → made w (out_gate at l c) ≡ literal_bit u l
  out-bit (constant b) c t = bit-one b
  out-bit (plain v) c t = h v t
  out-bit (inverse v) c t = ap not (h v t)

  -- the bits from wire c on
  pub outs-bit : (ls : List Literal) (c : ℕ) → T (every (readable given) ls) → Models w (out_gates at c ls)
      → (i : ℕ) → i < length ls → w (c + i) ≡ get_or (map (literal_bit u) ls) i false
  outs-bit [] c t ms i k = absurd (omega arith)
  outs-bit (l ∷ ls) c t ms zero k =
      let p = both (readable given l) (every (readable given) ls) t in
      let z : c + 0 ≡ c = omega arith in
      rw z (ap w (sym (out-result at l c)) ∙ all_head ms ∙ out-bit l c p.0)
  outs-bit (l ∷ ls) c t ms (suc i) k =
      let p = both (readable given l) (every (readable given) ls) t in
      let y : c + suc i ≡ c + 1 + i = omega arith in
      rw y (outs-bit ls (c + 1) p.1 (all_tail ms) i (omega arith))
