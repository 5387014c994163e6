-- The bytes of a list file that count, and the list that they are.
use Prim.Native.Nat.{ℕ, suc, ◌+◌, ◌≤◌, ◌<◌}
use mathlib.Core.Path.{◌≡◌, refl, sym, ap, ap₂, ◌∙◌}
use mathlib.Core.List.{List, [], ◌∷◌, ◌++◌, map}
use native.Mathlib.Numerals.{add-one}
use native.Mathlib.Omega.{arith}
use lib.ListN.{length, get_or, set, take, drop, length-set, length-append, length-take}
use Rattle.std.proofs.lemmas.List.{take-take}
use lib.Seq.{take_all, take_at, length-take-le, drop-cons, take-suc, take-suc-set, drop-set-lt}
use Rattle.netlist.specs.Text.{without_end}
use Rattle.text.proofs.LineEnds.{end_front, end_within}
use Rattle.program.specs.Programs.{file_limit, list_bytes, entry, list_file}
use Rattle.program.specs.Front.{Front}

-- the end comes off the bytes that are read
pub counted-front : (file s w : List ℕ) → s ≡ take file_limit file → w ≡ without_end s
    → Front file (length w) (list_bytes file)
counted-front file s w p e =
    let read = take file_limit file in
    let end : w ≡ without_end read = e ∙ ap without_end p in
    let l = end_within read in
    let m = length-take file_limit file in
    record {
      within = omega (arith, l, m, ap length end);
      same = ap (λ u. take (length u) file) end ∙ sym (take-take (length (without_end read)) file_limit file
          (omega (arith, l, m))) ∙ end_front read;
    }

-- the first i bytes are entries, the others as they were
pub record Listing (xs₀ xs : List ℕ) (i : ℕ) : Type 0 where
  pub passed : i ≤ length xs₀
  pub long : length xs ≡ length xs₀
  pub entries : take i xs ≡ map entry (take i xs₀)
  pub left : drop i xs ≡ drop i xs₀

map_snoc : (s : List ℕ) (b : ℕ) → map entry (s ++ (b ∷ [])) ≡ map entry s ++ (entry b ∷ [])
map_snoc [] b = refl
map_snoc (x ∷ s) b = ap (λ (r : List ℕ). entry x ∷ r) (map_snoc s b)

pub listing-more : {xs₀ xs : List ℕ} {i v : ℕ} → Listing xs₀ xs i → i < length xs₀ → v ≡ entry (get_or xs i 0)
    → Listing xs₀ (set xs i v) (i + 1)
listing-more {xs₀} {xs} {i} {v} l h e =
    let k = l.long in
    let tails : get_or xs i 0 ∷ drop (suc i) xs ≡ get_or xs₀ i 0 ∷ drop (suc i) xs₀
    = sym (drop-cons xs i 0 (omega arith)) ∙ l.left ∙ drop-cons xs₀ i 0 h in
    let b : get_or xs i 0 ≡ get_or xs₀ i 0 = cc in
    record {
      passed = omega arith;
      long = length-set xs i v ∙ k;
      entries =
          rw add-one (take-suc-set xs i v (omega arith) ∙ ap₂ (λ (u : List ℕ) (x : ℕ). u ++ (x ∷ [])) l.entries
          (e ∙ ap entry b)
          ∙ sym (map_snoc (take i xs₀) (get_or xs₀ i 0)) ∙ ap (map entry) (sym (take-suc xs₀ i 0 h)));
      left = rw add-one (drop-set-lt (suc i) xs i v (omega arith) ∙ (cc));
    }

-- all of them are
pub listed : {file xs : List ℕ} {n i : ℕ} → Front file n (list_bytes file) → Listing (take n file) xs i
    → length (take n file) ≤ i
    → Front (xs ++ drop n file) n (list_file file)
unfolding list_file
listed {file} {xs} {n} {i} c l h =
    let k = l.long in
    let m : length xs ≡ n = l.long ∙ length-take-le n file c.within in
    let e : xs ≡ map entry (take n file) = sym (take_all i xs (omega arith)) ∙ l.entries
    ∙ ap (map entry) (take_all i (take n file) h) in
    record {
      within = omega (arith, length-append xs (drop n file));
      same = take_at xs (drop n file) n m ∙ e
          ∙ ap (map entry) c.same;
    }
