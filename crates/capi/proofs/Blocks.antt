-- Tables one after another in a block.
use Prim.Native.Nat.{ℕ, zero, suc, ◌+◌, ◌<◌, ◌≤◌}
use Rattle.std.specs.Prelude.{Some}
use mathlib.Core.Path.{◌≡◌, refl, ap, ◌∙◌, subst}
use mathlib.Core.List.{List, [], ◌∷◌}
use native.Mathlib.Omega.{arith}
use borrow.Author.Tests.{le-leb}
use Rattle.netlist.proofs.Tests.{clash}
use Rattle.capi.specs.declared.table_kinds.Kind.{Kind}
use Rattle.capi.specs.declared.table_kinds.Kind.TheVariants.{Words, Halves, Bytes, Records, Names, NameHalves}
use Rattle.capi.specs.declared.workspace.Span.{Span}
use Rattle.capi.specs.TableKinds.{words_of, entries_in}
use Rattle.capi.specs.Workspace.{needed, place_of, span_of, kind_at, least, Fits}

holds-least : (k : Kind) (W : ℕ) → least k W ≤ entries_in k (words_of k W)
holds-least Words W = omega arith
holds-least Halves W = omega arith
holds-least Bytes W = omega arith
holds-least Records W = omega arith
holds-least Names W = omega arith
holds-least NameHalves W = omega arith

module _ (W : ℕ) where
  within : (at : ℕ) (ks : List Kind) (n : ℕ) (k : Kind) → kind_at ks n ≡ Some k
      → (place_of W at ks n).at + words_of k W ≤ at + needed W ks
  within at [] n k e = clash (cc)
  within at (j ∷ ks) zero k e = let q : j ≡ k = cc in rw q (omega arith)
  within at (j ∷ ks) (suc n) k e = let h = within (at + words_of j W) ks n k e in omega arith

  from-at : (at : ℕ) (ks : List Kind) (n : ℕ) (k : Kind) → kind_at ks n ≡ Some k → at ≤ (place_of W at ks n).at
  from-at at [] n k e = clash (cc)
  from-at at (j ∷ ks) zero k e = omega arith
  from-at at (j ∷ ks) (suc n) k e = let h = from-at (at + words_of j W) ks n k e in omega arith

  apart : (at : ℕ) (ks : List Kind) (n m : ℕ) (k j : Kind) → n < m → kind_at ks n ≡ Some k → kind_at ks m ≡ Some j
      → (place_of W at ks n).at + words_of k W ≤ (place_of W at ks m).at
  apart at [] n m k j h e f = clash (cc)
  apart at (i ∷ ks) n zero k j h e f = absurd (omega arith)
  apart at (i ∷ ks) zero (suc m) k j h e f =
      let q : i ≡ k = cc in
      let g = from-at (at + words_of i W) ks m j f in
      subst (λ (x : Kind). at + words_of x W ≤ (place_of W (at + words_of i W) ks m).at) q g
  apart at (i ∷ ks) (suc n) (suc m) k j h e f = apart (at + words_of i W) ks n m k j (omega arith) e f

  entries : (at : ℕ) (ks : List Kind) (n : ℕ) (k : Kind) → kind_at ks n ≡ Some k → (place_of W at ks n).entries
      ≡ entries_in k (words_of k W)
  entries at [] n k e = clash (cc)
  entries at (j ∷ ks) zero k e = let q : j ≡ k = cc in rw q refl
  entries at (j ∷ ks) (suc n) k e = entries (at + words_of j W) ks n k e

  pub fits : (ks : List Kind) (words n : ℕ) (k : Kind) (s : Span) → s ≡ place_of W 0 ks n → kind_at ks n ≡ Some k
      → needed W ks ≤ words → Fits W ks words n k s
  fits ks words n k s here h l =
      let long : (m : ℕ) → span_of W ks words m ≡ place_of W 0 ks m = λ m. rw (le-leb _ _ l) refl in
      let at : s.at ≡ (place_of W 0 ks n).at = ap (λ (x : Span). x.at) here in
      let count : s.entries ≡ entries_in k (words_of k W) = ap (λ (x : Span). x.entries) here ∙ entries 0 ks n k h in
      record {
        within = (let w = within 0 ks n k h in omega arith);
        apart = λ m j b f. (let w = apart 0 ks n m k j b h f in
            let a : (span_of W ks words m).at ≡ (place_of W 0 ks m).at = ap (λ (x : Span). x.at) (long m) in omega arith);
        enough = (let w = holds-least k W in omega arith);
      }
