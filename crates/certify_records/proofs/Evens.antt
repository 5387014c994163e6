-- Counts by the nibbles of a record's table.
use mathlib.Core.Path.{◌≡◌, sym, ap, ap₂, ◌∙◌}
use mathlib.Core.Bool.{Bool, true, false, not, ◌||◌}
use Prim.Native.Nat.{ℕ, ◌+◌, ◌*◌, ◌/◌, ◌%◌, ◌^◌, ◌<◌}
use native.Mathlib.Omega.{arith}
use Rattle.netlist.specs.Eval.{bit}
use Rattle.masking.specs.Leak.{count_of}
use Rattle.netlist.proofs.Tests.{on_bool, clash}
use Rattle.evaluate.specs.Lane.{lane}
use Rattle.leak_search.specs.Block.{nibble, ones}
use Rattle.certify_records.specs.declared.Record.{Record}
use Rattle.certify_records.specs.Record.{At, Right}
use Rattle.certify_records.specs.Even.{Even, atom_setting}
use lib.Bits.{bit_and, bit_xor}
use lib.Dec.{T}
use borrow.Author.Tests.{eqb-true}
use Rattle.evaluate.proofs.Words.{word-known}
use Rattle.certify_records.specs.Place.{turns_at}
use Rattle.certify_records.specs.Made.{free_of, settled, counts_of}
use Rattle.certify_records.proofs.Tables.{independent-law}
use Rattle.certify_records.proofs.Records.{on_pair}
use Rattle.certify_records.proofs.Places.{place-below, place-m0, place-m1, place-first, place-second, place-third}
use Rattle.certify_records.proofs.Places.{place-fourth, setting-below, Free, free-first, free-second, free-third}
use Rattle.certify_records.proofs.Places.{free-fourth, nibble-lane}

module _ (bits : ℕ → Bool) (r : Record) where
  -- the setting of a record's atoms
  abbrev pub setting_of : ℕ
  setting_of = atom_setting (bits r.first) (bits r.second) (bits r.third) (bits r.fourth)

  at_place : (i : ℕ) → i < 4 → At bits r (i + 4 * setting_of)
  at_place i h = record {
    first = record { bit = λ n. sym (place-first i h (bits r.first) (bits r.second) (bits r.third) (bits r.fourth)) };
    second = record { bit = λ n. sym (place-second i h (bits r.first) (bits r.second) (bits r.third) (bits r.fourth)) };
    third = record { bit = λ n. sym (place-third i h (bits r.first) (bits r.second) (bits r.third) (bits r.fourth)) };
    fourth = record { bit = λ n. sym (place-fourth i h (bits r.first) (bits r.second) (bits r.third) (bits r.fourth)) };
  }

  module _ (wire : Bool → Bool → Bool) (R : Right bits wire r) where
    -- what the table shows at mask setting i
    pub shown : (i : ℕ) → i < 4 → lane (i + 4 * setting_of) r.table ≡ wire (lane 0 i) (lane 1 i)
    shown i h =
        R.each (i + 4 * setting_of) (place-below i h (bits r.first) (bits r.second) (bits r.third) (bits r.fourth))
        (at_place i h)
        ∙ ap₂ wire (place-m0 i h (bits r.first) (bits r.second) (bits r.third) (bits r.fourth))
        (place-m1 i h (bits r.first) (bits r.second) (bits r.third) (bits r.fourth))

    shown-as : (i k : ℕ) → i < 4 → k ≡ i + 4 * setting_of → bit (lane k r.table) ≡ bit (wire (lane 0 i) (lane 1 i))
    shown-as i k h e = ap (λ (n : ℕ). bit (lane n r.table)) e ∙ ap bit (shown i h)

    pub count-shown : ones r.table setting_of ≡ count_of wire
    count-shown =
        let s = setting_of in
        let e0 : bit (lane (4 * s) r.table) ≡ bit (wire false false) = shown-as 0 (4 * s) (omega arith) (omega arith) in
        let e1 : bit (lane (4 * s + 1) r.table) ≡ bit (wire true false) = shown-as 1 (4 * s + 1) (omega arith)
        (omega arith) in
        let e2 : bit (lane (4 * s + 2) r.table) ≡ bit (wire false true) = shown-as 2 (4 * s + 2) (omega arith)
        (omega arith) in
        let e3 : bit (lane (4 * s + 3) r.table) ≡ bit (wire true true) = shown-as 3 (4 * s + 3) (omega arith)
        (omega arith) in
        omega arith

-- one atom changed: it is public and has equal bits, or nothing depends on it
change : {plain : Bool} {f : Bool → ℕ} (x y : Bool) → ((z : Bool) → plain ≡ false → f z ≡ f (not z))
    → (plain ≡ true → x ≡ y) → f x ≡ f y
change {plain} {f} x y free same =
    on_bool plain (λ e. ap f (same e)) (λ e. on_pair x y (λ q. ap f q) (λ q. ap f q ∙ sym (free y e)))

module _ (r : Record) (counts : ℕ) (a b c d : Bool) (counted : (s : ℕ) → s < 16 → nibble counts s ≡ ones r.table s)
    (fa : a ≡ false → Free 0 counts) (fb : b ≡ false → Free 1 counts) (fc : c ≡ false → Free 2 counts)
    (fd : d ≡ false → Free 3 counts) where
  pub even-law : Even r a b c d
  even-law = record {
    same = λ {bits} {bits'} {wire} {wire'} R R' ea eb ec ed.
        let p = bits r.first in
        let q = bits r.second in
        let u = bits r.third in
        let v = bits r.fourth in
        let p' = bits' r.first in
        let q' = bits' r.second in
        let u' = bits' r.third in
        let v' = bits' r.fourth in
        sym (count-shown bits r wire R)
        ∙ sym (counted (setting_of bits r) (setting-below p q u v))
        ∙ change {f = λ z. nibble counts (atom_setting z q u v)} p p' (λ z e. free-first counts z q u v (fa e)) ea
        ∙ change {f = λ z. nibble counts (atom_setting p' z u v)} q q' (λ z e. free-second counts p' z u v (fb e)) eb
        ∙ change {f = λ z. nibble counts (atom_setting p' q' z v)} u u' (λ z e. free-third counts p' q' z v (fc e)) ec
        ∙ change {f = λ z. nibble counts (atom_setting p' q' u' z)} v v' (λ z e. free-fourth counts p' q' u' z (fd e))
        ed
        ∙ counted (setting_of bits' r) (setting-below p' q' u' v')
        ∙ count-shown bits' r wire' R';
  }

-- what is settled is public, or nothing depends on it
pub free-from : (j up low t : ℕ) → T (turns_at j up low) → {public : Bool} → settled public t up low ≡ true → public
    ≡ false → Free j t
free-from j up low t ok s p l h =
    let f : free_of t up low ≡ true = ap (λ (q : Bool). q || free_of t up low) (sym p) ∙ s in
    independent-law t up low (eqb-true (bit_and (bit_xor (t / 2 ^ up) t) low) 0 f) j ok l h

-- the counts, each in its nibble, are one word
pub counted : (r : ℕ) (t : ℕ) → r < 2 ^ 64 → ((s : ℕ) → s < 16 → nibble r s ≡ ones t s) → r ≡ counts_of t
counted r t fits each =
    word-known r (λ l. lane (l % 4) (ones t (l / 4))) fits
    (λ l h.
    let f : l % 4 + 4 * (l / 4) ≡ l = omega arith in
    ap (λ (k : ℕ). lane k r) (sym f) ∙ sym (nibble-lane r (l / 4) (l % 4) (omega arith))
    ∙ ap (lane (l % 4)) (each (l / 4) (omega arith)))

pub no : {P : Type 0} → false ≡ true → P
no e = clash (cc)
