-- Lists written record by record.
use Prim.Native.Nat.{ℕ, suc, ◌+◌, ◌≤◌, ◌<◌}
use mathlib.Core.Path.{◌≡◌, refl, sym, ap, ap₂, ◌∙◌}
use mathlib.Core.List.{List, [], ◌∷◌, ◌++◌, map, append_assoc}
use native.Mathlib.Omega.{arith}
use native.Mathlib.Numerals.{add-one}
use lib.ListN.{length, get_or, set, take, drop, length-append, length-map}
use lib.Seq.{sets, length-sets, take-suc, length-take-le, drop-cons}
use borrow.Author.Tests.{eq-eqb, ne_eqb}
use Rattle.netlist.specs.declared.Gate.{Gate}
use Rattle.netlist.specs.declared.Gate.TheVariants.{Xor}
use Rattle.masking.specs.Mask.{is_public, mask_gates, public_gates}
use Rattle.gates.specs.declared.records.GateRecord.{GateRecord}
use Rattle.gates.specs.Records.{record_of, blank}
use Rattle.mask_rule.specs.Rule.{At}
use Rattle.session.specs.Afresh.{open_gates}
use Rattle.session.proofs.Keeps.{map_more}
use Rattle.session.proofs.Openings.{open-count}
use Rattle.std.proofs.lemmas.List.{append-nil, nil_from_length}
use Rattle.std.proofs.lemmas.List.Sums.{count_by-le-length}

sets_more : (l vs : List GateRecord) (i : ℕ) (a : GateRecord) → set (sets l i vs) (i + length vs) a
    ≡ sets l i (vs ++ (a ∷ []))
sets_more l [] i a = let z : i + 0 ≡ i = omega arith in ap (λ (k : ℕ). set l k a) z
sets_more l (v ∷ vs) i a = let z : i + suc (length vs) ≡ suc i + length vs = omega arith in
    ap (λ (k : ℕ). set (sets (set l i v) (suc i) vs) k a) z ∙ sets_more (set l i v) vs (suc i) a

-- one record more
pub wrote-more : (ys rs : List GateRecord) (at : ℕ) {zs : List GateRecord} {k : ℕ} {g : GateRecord} → zs
    ≡ sets ys at (take k rs) → k < length rs → At rs k g
    → set zs (at + k) g ≡ sets ys at (take (k + 1) rs)
wrote-more ys rs at {zs} {k} {g} w i a =
    let n : length (take k rs) ≡ k = length-take-le k rs (omega arith) in
    ap₂ (λ (x : List GateRecord) (h : GateRecord). set x (at + k) h) w (a i)
    ∙ ap (λ (j : ℕ). set (sets ys at (take k rs)) (at + j) (get_or rs k blank)) (sym n)
    ∙ sets_more ys (take k rs) at (get_or rs k blank)
    ∙ ap (sets ys at) (sym (take-suc rs k blank i) ∙ ap (λ (j : ℕ). take j rs) (sym (add-one k)))

-- the list has an opening's gates but for those of the public bits from w on
pub record Opening (codes : List ℕ) (ys : List GateRecord) (w next : ℕ) (zs : List GateRecord) : Type 0 where
  pub gates : List Gate
  pub count : length gates ≡ next
  pub left : open_gates codes ≡ gates ++ public_gates (length codes) (length codes + 2 + next) w (drop w codes)
  pub list : zs ≡ sets ys 0 (map record_of gates)

pub opening-none : (codes : List ℕ) (ys : List GateRecord) → Opening codes ys 0 3
    (sets ys 0 (map record_of (mask_gates (length codes))))
opening-none codes ys =
    let n = length codes in
    let z : n + 5 ≡ n + 2 + 3 = omega arith in
    record {
      gates = mask_gates n;
      count = refl;
      left = ap (λ (c : ℕ). mask_gates n ++ public_gates n c 0 codes) z;
      list
          = refl;
    }

pub open-most : (codes : List ℕ) → length (open_gates codes) ≤ 3 + length codes
open-most codes = omega (arith, open-count codes, count_by-le-length is_public codes)

module _ {codes : List ℕ} {ys zs : List GateRecord} {w next : ℕ} (o : Opening codes ys w next zs) where
  abbrev n : ℕ
  n = length codes

  abbrev rest : List Gate
  rest = public_gates n (n + 2 + next) w (drop w codes)

  all-count : length (open_gates codes) ≡ next + length rest
  all-count = omega (arith, ap length o.left, length-append o.gates rest, o.count)

  pub next-most : next ≤ length (open_gates codes)
  next-most = omega (arith, all-count)

  -- where as many gates are written as the opening has, the list is complete: no bit that is left is public
  pub opening-all : next ≡ length (open_gates codes) → zs ≡ sets ys 0 (map record_of (open_gates codes))
  opening-all e =
      let none : rest ≡ [] = nil_from_length rest (omega (arith, all-count, e)) in
      o.list ∙ ap (λ (gs : List Gate). sets ys 0 (map record_of gs))
      (sym (o.left ∙ ap (λ (gs : List Gate). o.gates ++ gs) none ∙ append-nil o.gates))

  pub length-same : length zs ≡ length ys
  length-same = ap length o.list ∙ length-sets ys 0 (map record_of o.gates)

  module _ (l : w < n) where
    front : drop w codes ≡ get_or codes w 0 ∷ drop (w + 1) codes
    front = drop-cons codes w 0 l ∙ rw (add-one w) refl

    module _ (e : get_or codes w 0 ≡ 0) where
      abbrev x : Gate
      x = Xor w n (n + 2 + next)

      abbrev later : List Gate
      later = public_gates n (n + 2 + next + 1) (w + 1) (drop (w + 1) codes)

      rest-is : rest ≡ x ∷ later
      rest-is = ap (public_gates n (n + 2 + next) w) front ∙ rw (eq-eqb (get_or codes w 0) 0 e)

      pub next-below : next < length (open_gates codes)
      next-below = omega (arith, all-count, ap length rest-is)

      pub opening-public : {g : GateRecord} → g ≡ record_of x → Opening codes ys (w + 1) (next + 1) (set zs next g)
      opening-public {g} f =
          let c : n + 2 + next + 1 ≡ n + 2 + (next + 1) = omega arith in
          let m : length (map record_of o.gates) ≡ next = length-map o.gates record_of ∙ o.count in
          record {
            gates = o.gates ++ (x ∷ []);
            count = length-append o.gates (x ∷ []) ∙ ap (λ (k : ℕ). k + 1) o.count;
            left =
                o.left ∙ ap (λ (gs : List Gate). o.gates ++ gs) rest-is ∙ sym (append_assoc o.gates (x ∷ []) later)
                ∙ ap (λ (k : ℕ). (o.gates ++ (x ∷ [])) ++ public_gates n k (w + 1) (drop (w + 1) codes)) c;
            list =
                ap₂ (λ (l : List GateRecord) (r : GateRecord). set l next r) o.list f
                ∙ ap (λ (k : ℕ). set (sets ys 0 (map record_of o.gates)) k (record_of x)) (omega (arith, m))
                ∙ sets_more ys (map record_of o.gates) 0 (record_of x)
                ∙ ap (sets ys 0) (sym (map_more record_of o.gates (x ∷ [])));
          }

    pub opening-secret : (get_or codes w 0 ≡ 0 → ⊥) → Opening codes ys (w + 1) next zs
    opening-secret d = record {
      gates = o.gates;
      count = o.count;
      left =
          o.left ∙ ap (λ (es : List ℕ). o.gates ++ public_gates n (n + 2 + next) w es) front
          ∙ rw (ne_eqb (get_or codes w 0) 0 d);
      list = o.list;
    }
