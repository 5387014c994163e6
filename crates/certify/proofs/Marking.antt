-- What marks and right records show of a wire.
use mathlib.Core.Path.{◌≡◌, sym, ap, ◌∙◌}
use mathlib.Core.Bool.{Bool, true, false, cond}
use mathlib.Core.List.{List}
use mathlib.Core.Logic.{◌≢◌}
use Prim.Native.Nat.{ℕ, ◌+◌, ◌*◌, ◌/◌, ◌<◌}
use native.Mathlib.Omega.{arith}
use lib.Dec.{eqb}
use lib.ListN.{get_or}
use borrow.Author.Tests.{eqb-false, ne_eqb}
use Rattle.netlist.specs.Netlist.{Netlist}
use Rattle.netlist.specs.Eval.{differs}
use Rattle.masking.specs.Leak.{count, SamePublic, EqualCounts}
use Rattle.netlist.proofs.Tests.{on_bool}
use Rattle.evaluate.specs.Lane.{lane}
use Rattle.certify_records.specs.declared.Record.{Record}
use Rattle.certify_records.specs.Record.{Has, Right, no_atom}
use Rattle.certify_records.specs.Even.{Even, atom_setting}
use Rattle.certify_records.proofs.Evens.{setting_of, shown}
use Rattle.certify.specs.Known.{bit_of, atom_bit, Known, Open}
use Rattle.certify.specs.Store.{Marked, public_atom}

-- bits of atoms, zero where there is none
abbrev cut : (ℕ → Bool) → ℕ → Bool
cut bits a = cond (eqb a no_atom) false (bits a)

uncut : {bits : ℕ → Bool} {a : ℕ} {b : Bool} → Has (cut bits) a b → Has bits a b
uncut {bits} {a} {b} h = record { bit = λ n. let e : cut bits a ≡ bits a = rw (ne_eqb a no_atom n) in sym e ∙ h.bit n }

right-cut : {bits : ℕ → Bool} {wire : Bool → Bool → Bool} {r : Record} → Right bits wire r → Right (cut bits) wire r
right-cut R = record {
  each = λ l h at. R.each l h record {
    first = uncut at.first;
    second = uncut at.second;
    third = uncut at.third;
    fourth = uncut at.fourth;
  };
}

-- an atom is one of a public wire, or none
abbrev pub Plain : List ℕ → ℕ → Type 0
Plain marks a = a ≢ no_atom → lane 1 (get_or marks (a / 8) 0) ≡ true

pub plain-atom : (marks : List ℕ) (a : ℕ) {b : Bool} → b ≡ public_atom marks a → b ≡ true → Plain marks a
plain-atom marks a e t n = let f : public_atom marks a ≡ lane 1 (get_or marks (a / 8) 0) = rw (ne_eqb a no_atom n)
    in sym f ∙ sym e ∙ t

module _ {N : Netlist} {codes marks : List ℕ} (M : Marked N codes marks) where
  module _ (x y : List Bool) (P : SamePublic codes x y) where
    same-cut : (a : ℕ) → Plain marks a → cut (atom_bit N codes x) a ≡ cut (atom_bit N codes y) a
    same-cut a p =
        on_bool (eqb a no_atom) (λ e. rw e) (λ e.
        let n : a ≢ no_atom = eqb-false a no_atom e in
        rw e (ap (λ (b : Bool). differs b (lane 0 a)) ((M.public (a / 8) (p n)).same x y P (lane 1 a) (lane 2 a))))

  pub clean-law : {w : ℕ} {r : Record} {a b c d : Bool} → Even r a b c d → (a ≡ true → Plain marks r.first)
      → (b ≡ true → Plain marks r.second)
      → (c ≡ true → Plain marks r.third) → (d ≡ true → Plain marks r.fourth) → Known N codes w r → EqualCounts N codes w
  unfolding count
  clean-law {r = r} E pa pb pc pd K x y P =
      E.same (right-cut (K.right x)) (right-cut (K.right y)) (λ e. same-cut x y P r.first (pa e))
      (λ e. same-cut x y P r.second (pb e))
      (λ e. same-cut x y P r.third (pc e)) (λ e. same-cut x y P r.fourth (pd e))

  pub public-law : {w : ℕ} {r : Record} → Plain marks r.first → Plain marks r.second → Plain marks r.third
      → Plain marks r.fourth
      → Known N codes w r → Open N codes w
  public-law {w} {r} pa pb pc pd K = record {
    same = λ x y P.
        let bx = cut (atom_bit N codes x) in
        let by = cut (atom_bit N codes y) in
        let ea = same-cut x y P r.first pa in
        let eb = same-cut x y P r.second pb in
        let ec = same-cut x y P r.third pc in
        let ed = same-cut x y P r.fourth pd in
        let e : setting_of bx r ≡ setting_of by r = λ i. atom_setting (ea i) (eb i) (ec i) (ed i) in
        let at : (i : ℕ) → i < 4 → bit_of N codes x w (lane 0 i) (lane 1 i) ≡ bit_of N codes y w (lane 0 i) (lane 1 i) =
        λ i h. sym (shown bx r (bit_of N codes x w) (right-cut (K.right x)) i h)
        ∙ ap (λ (s : ℕ). lane (i + 4 * s) r.table) e
        ∙ shown by r (bit_of N codes y w) (right-cut (K.right y)) i h in
        λ m0 m1. go (bit_of N codes x w) (bit_of N codes y w) at m0 m1;
  }
    where
      go : (u v : Bool → Bool → Bool) → ((i : ℕ) → i < 4 → u (lane 0 i) (lane 1 i) ≡ v (lane 0 i) (lane 1 i))
          → (m0 m1 : Bool) → u m0 m1 ≡ v m0 m1
      go u v at false false = at 0 (omega arith)
      go u v at true false = at 1 (omega arith)
      go u v at false true = at 2 (omega arith)
      go u v at true true = at 3 (omega arith)
