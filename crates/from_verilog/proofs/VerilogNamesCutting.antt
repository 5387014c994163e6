-- Tables of names cut to the names in use.
use Prim.Native.Nat.{ℕ, zero, suc, ◌≤◌, ◌%◌, ◌/◌}
use mathlib.Core.Path.{◌≡◌, refl, sym, ap, ap₂, subst, ◌∙◌}
use mathlib.Core.Bool.{cond}
use mathlib.Core.List.{List}
use native.Mathlib.Omega.{arith}
use lib.ListN.{length, take}
use lib.Seq.{get_or-take, length-take-le}
use Rattle.netlist.specs.Lists.{same_bytes}
use Rattle.netlist.specs.Table.{half}
use Rattle.from_verilog.specs.Names.{number, chain_at, newest, found, Chained}
use Rattle.from_verilog.proofs.Adding.{Agree, name_agree, newest-agree}

-- tables of words that agree hold the same names
module _ (t words words' : List ℕ) where
  pub found-agree : (w : List ℕ) (n : ℕ) → Agree t words words' n → found t words' w n ≡ found t words w n
  unfolding found
  found-agree w zero a = refl
  found-agree w (suc n) a =
      ap₂ (λ (x : List ℕ) (y : ℕ). cond (same_bytes x w) (suc n) y)
      (name_agree t words words' (suc n) n a (omega arith))
      (found-agree w n (λ i h. a i (omega (arith, h))))

pub chained-agree : {t heads words words' links links' : List ℕ} {size n : ℕ} → Agree t words words' n
    → Agree t links links' n → n ≤ length words' → n ≤ length links'
    → Chained t heads words links size n → Chained t heads words' links' size n
chained-agree {t} {heads} {words} {words'} {links} {links'} {size} {n} a b long linked C = record {
  headed = λ k h. C.headed k h ∙ sym (newest-agree t words words' size k n a);
  older = λ i h. b i h ∙ C.older i h ∙ sym (newest-agree t words words' size (chain_at t words size i) i
      (λ j l. a j (omega (arith, l, h))))
      ∙ ap (λ (w : List ℕ). newest t words' size (number w % size) i) (sym (name_agree t words words' n i a h));
  places = λ i h. subst (λ (x : ℕ). (x % half ≤ x / half) × (x / half ≤ length t)) (sym (a i h)) (C.places i h);
  some = C.some;
  sized = C.sized;
  worded = long;
  linked = linked;
  short = C.short;
}

-- the first n entries
pub cut-agree : (t xs : List ℕ) (n : ℕ) → Agree t xs (take n xs) n
cut-agree t xs n = λ i h. get_or-take n xs i 0 h

pub found-cut : (t words w : List ℕ) (n : ℕ) → n ≤ length words → found t (take n words) w (length (take n words))
    ≡ found t words w n
found-cut t words w n h = rw (length-take-le n words h) (found-agree t words (take n words) w n (cut-agree t words n))

pub chained-cut : {t heads words links : List ℕ} {size n : ℕ} → Chained t heads words links size n
    → Chained t heads (take n words) (take n links) size (length (take n words))
chained-cut {t} {heads} {words} {links} {size} {n} C =
    let w = length-take-le n words C.worded in
    let l = length-take-le n links C.linked in
    rw w (chained-agree (cut-agree t words n) (cut-agree t links n) (omega (arith, w)) (omega (arith, l)) C)
