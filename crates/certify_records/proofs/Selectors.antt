-- Atoms that are the same function of the same atoms.
use mathlib.Core.Path.{◌≡◌, sym, ap, ap₂, ◌∙◌}
use mathlib.Core.Bool.{Bool, true, ◌&&◌}
use Prim.Native.Nat.{ℕ, ◌+◌, ◌*◌, ◌/◌, ◌%◌, ◌^◌, ◌<◌}
use native.Mathlib.Omega.{arith}
use lib.Bits.{bit_and, bit_xor}
use Rattle.netlist.specs.Eval.{differs}
use Rattle.netlist.proofs.EachNumber.{same-below}
use Rattle.evaluate.specs.Lane.{lane}
use Rattle.evaluate.proofs.Lanes.{lane_and, lane_xor}
use Rattle.leak_search.proofs.Numbers.{lane-shift}
use Rattle.certify_records.specs.declared.Record.{Record}
use Rattle.certify_records.specs.Record.{Right, SameAtoms}
use Rattle.certify_records.specs.Even.{atom_setting}
use Rattle.certify_records.specs.Leaf.{AtomOf, OneAtom}
use Rattle.certify_records.proofs.Tables.{lane-mod, and_yes}
use Rattle.certify_records.proofs.Places.{setting-below}
use Rattle.certify_records.proofs.Evens.{setting_of, shown}

-- bit 4 s of p is what atom a of a wire is in setting s of a record's atoms
abbrev pub Selects : ℕ → ℕ → ℕ → Type 0
Selects t a p = (s : ℕ) → s < 16 → lane (4 * s) p ≡ differs (lane (a / 2 % 4 + 4 * s) t) (lane 0 a)

pub selects : (t a sp : ℕ) → ((j : ℕ) → j < 64 → lane j sp ≡ lane 0 a)
    → Selects t a (bit_and (bit_xor (t / 2 ^ (a / 2 % 4)) sp) 0x1111_1111_1111_1111)
selects t a sp e s h =
    let m = a / 2 % 4 in
    let f : 4 * s + m ≡ m + 4 * s = omega arith in
    lane_and (4 * s) (bit_xor (t / 2 ^ m) sp) 0x1111_1111_1111_1111
    ∙ ap (λ (b : Bool). lane (4 * s) (bit_xor (t / 2 ^ m) sp) && b)
    (same-below 16 (λ s. lane (4 * s) 0x1111_1111_1111_1111) (λ s. true) tt s h)
    ∙ and_yes (lane (4 * s) (bit_xor (t / 2 ^ m) sp)) ∙ lane_xor (4 * s) (t / 2 ^ m) sp
    ∙ ap₂ differs (lane-shift m (4 * s) t ∙ ap (λ (k : ℕ). lane k t) f) (e (4 * s) (omega arith))

module _ {bits : ℕ → Bool} {wire : Bool → Bool → Bool} {r : Record} {a : ℕ} (p : ℕ) (f : Selects r.table a p)
    (R : Right bits wire r)
    (A : AtomOf bits wire a) where
  selected : bits a ≡ lane (4 * setting_of bits r) p
  selected =
      let m = a / 2 % 4 in
      let h : m < 4 = omega arith in
      let m0 : lane 0 m ≡ lane 1 a = lane-mod 2 0 (a / 2) (omega arith) ∙ lane-shift 1 0 a in
      let m1 : lane 1 m ≡ lane 2 a = lane-mod 2 1 (a / 2) (omega arith) ∙ lane-shift 1 1 a in
      A ∙ ap (λ (b : Bool). differs b (lane 0 a)) (ap₂ wire (sym m0) (sym m1) ∙ sym (shown bits r wire R m h))
      ∙ sym (f (setting_of bits r) (setting-below (bits r.first) (bits r.second) (bits r.third) (bits r.fourth)))

pub one-atom : {r s : Record} {a b p q : ℕ} → SameAtoms r s → Selects r.table a p → Selects s.table b q → p ≡ q
    → OneAtom r a s b
one-atom {r} {s} {a} {b} {p} {q} F f g e = record {
  equal = λ {bits} R S A B.
      let k : setting_of bits r ≡ setting_of bits s = λ i. atom_setting (bits (F.first i)) (bits (F.second i))
      (bits (F.third i)) (bits (F.fourth i)) in
      selected p f R A ∙ ap₂ (λ (n p : ℕ). lane (4 * n) p) k e ∙ sym (selected q g S B);
}
