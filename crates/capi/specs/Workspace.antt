-- All working tables of a call in one block of words.
use Rattle.std.specs.Prelude.{ℕ, zero, suc, ◌+◌, ◌*◌, ◌≤◌, ◌<◌, ◌≡◌, Option, Some, None, cond, List, [], ◌∷◌, eqb, leb}
use Rattle.netlist.specs.declared.Sizes.{Sizes}
use Rattle.netlist.specs.Netlist.{small_wires, large_wires}
use Rattle.netlist.specs.Lists.{member}
use Rattle.capi.specs.declared.table_kinds.Kind.{Kind}
use Rattle.capi.specs.declared.table_kinds.Kind.TheVariants.{Words, Halves, Bytes, Records, Names, NameHalves}
use Rattle.capi.specs.declared.workspace.Span.{Span}
use Rattle.capi.specs.TableKinds.{words_of, entries_in}

-- the tables of a service, in the order of its parameters: 1 to 3 Rewrite and the conversions of the older dialect,
-- 4 and 5 Run and Run64, 6 Mask, 7 Mask with fewest changes, 8 Twins, 9 Check, 10 with pairs, 11 of many inputs,
-- 12 Certify, 13 AIGER files, 14 Join, 15 equations, 16 and 17 a session's text and masked text, 18 the shape,
-- 19 the refused place, 20 the verdicts on wires, 21 the polynomial and 22 the counts of a wire
abbrev pub kinds_of : ℕ → List Kind
kinds_of n =
    cond (member n (1 ∷ 2 ∷ 3 ∷ 8 ∷ 18 ∷ [])) (Words ∷ Words ∷ Bytes ∷ [])
    (cond (member n (4 ∷ 5 ∷ 21 ∷ [])) (Words ∷ Words ∷ Bytes ∷ Words ∷ [])
    (cond (member n (6 ∷ 17 ∷ [])) (Words ∷ Words ∷ Halves ∷ Bytes ∷ [])
    (cond (eqb n 7) (Words ∷ Words ∷ Halves ∷ Bytes ∷ Bytes ∷ Bytes ∷ Words ∷ [])
    (cond (member n (9 ∷ 14 ∷ 20 ∷ [])) (Words ∷ Words ∷ Bytes ∷ Words ∷ Words ∷ [])
    (cond (eqb n 10) (Words ∷ Words ∷ Bytes ∷ Words ∷ Words ∷ Words ∷ [])
    (cond (eqb n 11)
    (Words ∷ Words ∷ Bytes ∷ Words ∷ Words ∷ Words ∷ Words ∷ Words ∷ Words ∷ Words ∷ Bytes ∷ [])
    (cond (eqb n 12) (Words ∷ Words ∷ Bytes ∷ Words ∷ Words ∷ Records ∷ [])
    (cond (eqb n 13) (Words ∷ Words ∷ Halves ∷ [])
    (cond (eqb n 15) (Words ∷ Words ∷ Names ∷ Names ∷ Names ∷ NameHalves ∷ NameHalves ∷ [])
    (cond (eqb n 16) (Words ∷ Words ∷ [])
    (cond (eqb n 22) (Words ∷ Words ∷ Bytes ∷ Words ∷ Bytes ∷ [])
    (cond (eqb n 19) (Bytes ∷ []) []))))))))))))

-- the most wires of a service's netlists: those of a source, or of a masked netlist
abbrev pub wires_of : ℕ → Sizes → ℕ
wires_of n s = cond (member n (6 ∷ 7 ∷ 8 ∷ 13 ∷ 15 ∷ 16 ∷ 17 ∷ [])) (small_wires s) (large_wires s)

-- the words of some tables together
abbrev pub needed : ℕ → List Kind → ℕ
needed W [] = 0
needed W (k ∷ ks) = words_of k W + needed W ks

-- where table n stands: after those before it, the first at word `at`
abbrev pub place_of : ℕ → ℕ → List Kind → ℕ → Span
place_of W at [] n = record { at = 0; entries = 0 }
place_of W at (k ∷ ks) zero = record { at = at; entries = entries_in k (words_of k W) }
place_of W at (k ∷ ks) (suc n) = place_of W (at + words_of k W) ks n

-- in a block of too few words the first table has all of them
abbrev pub short_of : List Kind → ℕ → ℕ → Span
short_of [] words n = record { at = 0; entries = 0 }
short_of (k ∷ ks) words zero = record { at = 0; entries = entries_in k words }
short_of (k ∷ ks) words (suc n) = record { at = 0; entries = 0 }

abbrev pub span_of : ℕ → List Kind → ℕ → ℕ → Span
span_of W ks words n = cond (leb (needed W ks) words) (place_of W 0 ks n) (short_of ks words n)

-- the kind of table n, if there is one
abbrev pub kind_at : List Kind → ℕ → Option Kind
kind_at [] n = None
kind_at (k ∷ ks) zero = Some k
kind_at (k ∷ ks) (suc n) = kind_at ks n

-- the entries that question 1 asks for
abbrev pub least : Kind → ℕ → ℕ
least Words W = W
least Halves W = W
least Bytes W = W
least Records W = W * 15
least Names W = W * 8
least NameHalves W = W * 8

-- in a block of enough words a table lies within it and before the tables after it, with as many entries as question 1
-- asks for
pub record Fits (W : ℕ) (ks : List Kind) (words n : ℕ) (k : Kind) (s : Span) : Type 0 where
  pub within : s.at + words_of k W ≤ words
  pub apart : (m : ℕ) (j : Kind) → n < m → kind_at ks m ≡ Some j → s.at + words_of k W ≤ (span_of W ks words m).at
  pub enough : least k W ≤ s.entries
