-- What is known of a gate's result.
use mathlib.Core.Path.{◌≡◌, sym, ap, ◌∙◌, subst}
use mathlib.Core.Bool.{Bool, true, false}
use mathlib.Core.List.{List}
use mathlib.Core.Logic.{◌≢◌}
use Prim.Native.Nat.{ℕ, ◌+◌, ◌*◌, ◌/◌, ◌<◌, ◌≤◌}
use native.Mathlib.Omega.{arith}
use lib.Dec.{T, eqb}
use lib.ListN.{length, get_or, set}
use lib.Seq.{get_or-set_same, get_or-set_other}
use borrow.Author.Tests.{eqb-true, eqb-false}
use Rattle.netlist.specs.Netlist.{Netlist}
use Rattle.netlist.specs.Eval.{differs, bit}
use Rattle.masking.specs.Leak.{count, EqualCounts}
use Rattle.netlist.specs.Lists.{below}
use Rattle.netlist.proofs.EachNumber.{below_at, every_bit, every_bit-at, same, same-eq}
use Rattle.netlist.proofs.Tests.{on_bool}
use Rattle.evaluate.specs.Lane.{lane}
use Rattle.leak_search.proofs.Numbers.{low-lane}
use Rattle.certify_records.specs.declared.Record.{Record}
use Rattle.std.specs.Prelude.{Some}
use Rattle.certify_records.specs.Record.{JoinIs}
use Rattle.certify_records.specs.Leaf.{OwnAtoms, LeafIs}
use Rattle.certify_records.proofs.Evens.{no}
use Rattle.certify.specs.Known.{bit_of, atom_bit, Known, Open, Makes}
use Rattle.certify.specs.Store.{record_at, Present, PutAt, Recorded, Marked}
use Rattle.certify.proofs.Stores.{known_at, wire-of, recorded-put}
use Rattle.certify.specs.declared.gate.Shown.{Shown}
use Rattle.certify.specs.declared.gate.Shown.TheVariants.{Clean, Public}
use Rattle.certify.specs.Pass.{byte_of, Shows, Holding}

-- a public wire has equal counts
pub open-equal : {N : Netlist} {codes : List ℕ} {w : ℕ} → Open N codes w → EqualCounts N codes w
unfolding count
open-equal O x y P =
    let f = O.same x y P in
    let a = ap bit (f false false) in
    let b = ap bit (f true false) in
    let c = ap bit (f false true) in
    let d = ap bit (f true true) in
    λ i. a i + b i + c i + d i

module _ {N : Netlist} {codes m : List ℕ} {w : ℕ} (v : ℕ) (M : Marked N codes m) (inside : w < length m) where
  -- a mark that is set
  marked-as : (lane 0 v ≡ true → EqualCounts N codes w) → (lane 1 v ≡ true → Open N codes w)
      → Marked N codes (set m w v)
  marked-as f g = record {
    clean = λ k h.
        on_bool (eqb k w)
        (λ e. let z = eqb-true k w e in subst (EqualCounts N codes) (sym z) (f (ap (lane 0) (sym (here k z)) ∙ h)))
        (λ e. M.clean k (ap (lane 0) (sym (there k (eqb-false k w e))) ∙ h));
    public = λ k h.
        on_bool (eqb k w)
        (λ e. let z = eqb-true k w e in subst (Open N codes) (sym z) (g (ap (lane 1) (sym (here k z)) ∙ h)))
        (λ e. M.public k (ap (lane 1) (sym (there k (eqb-false k w e))) ∙ h));
  }
    where
      here : (k : ℕ) → k ≡ w → get_or (set m w v) k 0 ≡ v
      here k z = ap (λ (n : ℕ). get_or (set m w v) n 0) z ∙ get_or-set_same m w v 0 inside

      there : (k : ℕ) → k ≢ w → get_or (set m w v) k 0 ≡ get_or m k 0
      there k n = get_or-set_other m w k v 0 n

pub marked : {N : Netlist} {codes m : List ℕ} {w : ℕ} (k : Shown) → w < length m → Shows N codes w k → Marked N codes m
    → Marked N codes (set m w (byte_of k))
marked Clean h s M = marked-as 1 M h (λ e. s) (λ e. no e)
marked Public h s M = marked-as 3 M h (λ e. open-equal s) (λ e. s)

-- a record that was read, or made
pub read_known : {N : Netlist} {codes t : List ℕ} (w k : ℕ) {r : Record} → k < 5 → Recorded N codes t → r
    ≡ record_at t (5 * w + k) → Present r
    → Known N codes w r
read_known {N} {codes} w k {r} h R e p = subst (λ (n : ℕ). Known N codes n r) (wire-of w k h)
    (known_at (5 * w + k) R e p)

pub put-leaf : {N : Netlist} {codes e x : List ℕ} {w : ℕ} {r : Record} → PutAt e (5 * w) r x → Recorded N codes e
    → Known N codes w r → Recorded N codes x
put-leaf {N} {codes} {w = w} {r = r} P R K =
    let f : w ≡ 5 * w / 5 = omega arith in
    recorded-put P R (subst (λ (n : ℕ). Known N codes n r) f K)

pub put-last : {N : Netlist} {codes e x : List ℕ} {w : ℕ} {r : Record} → PutAt e (5 * w + 4) r x → Recorded N codes e
    → Known N codes w r → Recorded N codes x
put-last {N} {codes} {w = w} {r = r} P R K =
    let f : w ≡ (5 * w + 4) / 5 = omega arith in
    recorded-put P R (subst (λ (n : ℕ). Known N codes n r) f K)

pub first-known : {N : Netlist} {codes t : List ℕ} (w : ℕ) {r : Record} → Recorded N codes t → r ≡ record_at t (5 * w)
    → Present r → Known N codes w r
first-known {N} {codes} w {r} R e p =
    let f : 5 * w / 5 ≡ w = omega arith in
    subst (λ (n : ℕ). Known N codes n r) f (known_at (5 * w) R e p)

-- a record of what a gate makes
pub joined-known : {N : Netlist} {codes : List ℕ} (kind p q w : ℕ) {x y z : Record} → JoinIs kind x y (Some z)
    → Makes N codes kind p q w
    → Known N codes p x → Known N codes q y → Known N codes w z
joined-known {N} {codes} kind p q w J M X Y = record {
  right = λ s. record {
    each = λ l h at.
        (J (atom_bit N codes s) (bit_of N codes s p) (bit_of N codes s q) (X.right s) (Y.right s)).each l h at
        ∙ sym (M.bit s (lane 0 l) (lane 1 l));
  };
}

-- a wire's own atoms
own-bit : (m : ℕ) → m < 4 → (p : Bool) → (lane 0 (2 * m + bit p) ≡ p) × (lane 1 (2 * m + bit p) ≡ lane 0 m)
    × (lane 2 (2 * m + bit p) ≡ lane 1 m)
own-bit m h p = (
  same-eq _ _ (test (λ m p. same (lane 0 (2 * m + bit p)) p) tt),
  same-eq _ _ (test (λ m p. same (lane 1 (2 * m + bit p)) (lane 0 m)) tt),
  same-eq _ _ (test (λ m p. same (lane 2 (2 * m + bit p)) (lane 1 m)) tt),
)
  where
    test : (f : ℕ → Bool → Bool) → T (below 4 (λ m. every_bit (f m))) → T (f m p)
    test f ok = every_bit-at (f m) (below_at 4 (λ m. every_bit (f m)) ok m h) p

bit-most : (b : Bool) → bit b ≤ 1
bit-most true = omega arith
bit-most false = omega arith

pub own-atoms : (N : Netlist) (codes : List ℕ) (s : List Bool) (w : ℕ) → OwnAtoms (atom_bit N codes s)
    (bit_of N codes s w) w
own-atoms N codes s w = record {
  atom = λ m h p.
      let j = 2 * m + bit p in
      let k = bit-most p in
      let e : 8 * w + j ≡ w * 8 + j = omega arith in
      let f : (8 * w + j) / 8 ≡ w = omega arith in
      let low : (i : ℕ) → i < 3 → lane i (8 * w + j) ≡ lane i j = λ i q. ap (lane i) e ∙ low-lane 3 i w j q in
      let b = own-bit m h p in
      let l0 = low 0 (omega arith) ∙ b.0 in
      let l1 = low 1 (omega arith) ∙ b.1 in
      let l2 = low 2 (omega arith) ∙ b.2 in
      λ i. differs (bit_of N codes s (f i) (l1 i) (l2 i)) (l0 i);
}

pub leaf-known : {N : Netlist} {codes : List ℕ} (w : ℕ) {r s : Record} → LeafIs w r (Some s) → Known N codes w r
    → Known N codes w s
leaf-known {N} {codes} w L K = record {
  right = λ x. L (atom_bit N codes x) (bit_of N codes x w) (own-atoms N codes x w)
      (K.right x);
}

-- what is true of a netlist stays so
abbrev pub Stays : List ℕ → List ℕ → List ℕ → List ℕ → Type 0
Stays r m r' m' = (N : Netlist) (codes : List ℕ) → Holding N codes r m → Holding N codes r' m'
