-- The opening and the header.
use Prim.Native.Nat.{ℕ, zero, suc, ◌^◌, ◌<◌}
use mathlib.Core.Path.{◌≡◌, refl, sym, ap, ◌∙◌, subst}
use mathlib.Core.Bool.{Bool, true, false, ◌&&◌}
use mathlib.Core.List.{List, [], ◌∷◌, ◌++◌}
use mathlib.Core.Option.{Option, none, some}
use native.Mathlib.Omega.{arith}
use lib.Dec.{eqb, leb, ltb, lit<}
use lib.ListN.{length, take, drop, get_or}
use borrow.Author.Tests.{eqb-true, ltb-true}
use Rattle.netlist.specs.declared.Limits.{Limits}
use Rattle.netlist.specs.Lists.{same_bytes}
use Rattle.netlist.specs.Number.{number, max_digits}
use Rattle.netlist.specs.Header.{cons_option, numbers}
use Rattle.netlist.specs.Outcome.{refused, done, ask}
use Rattle.netlist.proofs.Tests.{All, empty, each, both_true, clash}
use Rattle.netlist.proofs.Questions.{none-some, some_same}
use Rattle.aiger.specs.Lines.{file_line, opens, Head, head_of, head, head_good}
use Rattle.aiger.specs.Call.{head_outcome}
use Rattle.from_aiger.specs.declared.lines.Lines.{Lines}
use Rattle.from_aiger.specs.LineAnswers.{NotSoMany, FileLineAt}
use Rattle.from_aiger.specs.Counts.{LowCounts}
use Rattle.from_aiger.specs.HeadAnswers.{head_said, head_asked, HeadAt}
use Rattle.from_aiger.specs.declared.counts.HeadNumbers.{HeadNumbers}
use Rattle.from_aiger.proofs.NumberBound.{number-below}

-- ---- the opening

front : (w t : List ℕ) → same_bytes (take (length w) t) w ≡ true → t ≡ w ++ drop (length w) t
front [] t e = refl
front (b ∷ w) [] e = clash (cc)
front (b ∷ w) (a ∷ t) e =
    let p = both_true (eqb a b) (same_bytes (take (length w) t) w) e in
    ap (λ (x : ℕ). x ∷ t) (eqb-true a b p.0) ∙ ap (λ (u : List ℕ). b ∷ u) (front w t p.1)

-- ---- the numbers

numbers-low : (ws : List (List ℕ)) (xs : List ℕ) → numbers ws ≡ some xs → All (λ v. v < 10 ^ max_digits) xs
numbers-low [] xs e = subst (All (λ v. v < 10 ^ max_digits)) (some_same [] xs e) empty
numbers-low (w ∷ ws) xs e = go (number w) (numbers ws) refl e (λ ms. numbers-low ws ms)
  where
    go : (o : Option ℕ) (q : Option (List ℕ)) → number w ≡ o → cons_option o q ≡ some xs
        → ((ms : List ℕ) → q ≡ some ms → All (λ v. v < 10 ^ max_digits) ms) → All (λ v. v < 10 ^ max_digits) xs
    go none q a e f = absurd (none-some xs e)
    go (some v) none a e f = absurd (none-some xs e)
    go (some v) (some ms) a e f = subst (All (λ v. v < 10 ^ max_digits)) (some_same (v ∷ ms) xs e)
        (each (number-below w v a) (f ms refl))

entry-low : {xs : List ℕ} (i : ℕ) → All (λ v. v < 10 ^ max_digits) xs → get_or xs i 0 < 10 ^ max_digits
entry-low i empty = lit< tt
entry-low zero (each p ps) = p
entry-low (suc i) (each p ps) = entry-low i ps

five-entries : (xs : List ℕ) → length xs ≡ 5 → xs ≡ get_or xs 0 0 ∷
    (get_or xs 1 0 ∷ (get_or xs 2 0 ∷ (get_or xs 3 0 ∷ (get_or xs 4 0 ∷ []))))
five-entries [] e = absurd (omega arith)
five-entries (a ∷ []) e = absurd (omega arith)
five-entries (a ∷ (b ∷ [])) e = absurd (omega arith)
five-entries (a ∷ (b ∷ (c ∷ []))) e = absurd (omega arith)
five-entries (a ∷ (b ∷ (c ∷ (d ∷ [])))) e = absurd (omega arith)
five-entries (a ∷ (b ∷ (c ∷ (d ∷ (x ∷ []))))) e = refl
five-entries (a ∷ (b ∷ (c ∷ (d ∷ (x ∷ (y ∷ ys)))))) e = absurd (omega arith)

no-head : (o : Option (List ℕ)) → NotSoMany o 5 → head_of o ≡ none
no-head none h = refl
no-head (some []) h = refl
no-head (some (a ∷ [])) h = refl
no-head (some (a ∷ (b ∷ []))) h = refl
no-head (some (a ∷ (b ∷ (c ∷ [])))) h = refl
no-head (some (a ∷ (b ∷ (c ∷ (d ∷ []))))) h = refl
no-head (some (a ∷ (b ∷ (c ∷ (d ∷ (x ∷ [])))))) h = absurd (h (a ∷ (b ∷ (c ∷ (d ∷ (x ∷ []))))) refl refl)
no-head (some (a ∷ (b ∷ (c ∷ (d ∷ (x ∷ (y ∷ ys))))))) h = refl

-- the header of five numbers
abbrev pub head_from : (xs : List ℕ) → LowCounts (get_or xs 1 0) (get_or xs 3 0) (get_or xs 4 0) → HeadNumbers
head_from xs low = record {
  most = get_or xs 0 0;
  inputs = get_or xs 1 0;
  latches = get_or xs 2 0;
  outputs
      = get_or xs 3 0;
  ands = get_or xs 4 0;
  low = low;
}

-- its counts are numbers of a file
pub counts-low : (t xs : List ℕ) (left : List ℕ) → FileLineAt t 5 xs left → LowCounts (get_or xs 1 0) (get_or xs 3 0)
    (get_or xs 4 0)
counts-low t xs left A =
    let low = numbers-low (file_line t) xs A.line in
    record { inputs = entry-low 1 low; outputs = entry-low 3 low; ands = entry-low 4 low }

-- ---- the questions

module _ (L : Limits) (t : List ℕ) where
  module _ (o : opens t ≡ true) where
    -- a first line that has not five numbers
    pub head-not : NotSoMany (numbers (file_line (drop 4 t))) 5 → head_outcome L t ≡ refused 19
    head-not h = let n : head t ≡ none = no-head (numbers (file_line (drop 4 t))) h in rw (o, n)

    module _ (xs : List ℕ) (l : Lines) (same : l.text.now ≡ t) (A : FileLineAt (drop 4 t) 5 xs (drop l.at l.text.now))
        (low : LowCounts (get_or xs 1 0) (get_or xs 3 0) (get_or xs 4 0)) where
      abbrev H : Head
      H = head_said (head_from xs low)

      said : head t ≡ some H
      said = ap head_of (A.line ∙ ap some (five-entries xs A.size))

      asked : head_outcome L t ≡ ask 19 (head_good L H) (ask 20 (eqb H.latches 0) (done H))
      asked = rw (o, said)

      pub head-taken : done (tt {0}) ≡ head_asked L H → HeadAt L t (head_from xs low) l
      head-taken e = go (head_good L H) (eqb H.latches 0) refl refl e
        where
          go : (a b : Bool) → head_good L H ≡ a → eqb H.latches 0 ≡ b → done (tt {0})
              ≡ ask 19 a (ask 20 b (done (tt {0}))) → HeadAt L t (head_from xs low) l
          go true false p q e = clash (cc)
          go false b p q e = clash (cc)
          go true true p q e =
              record {
                outcome = asked ∙ rw (p, q);
                most = ltb-true H.most L.wires (both_true (leb 1 H.inputs && leb 1 H.outputs) (ltb H.most L.wires) p).1;
                text = same;
                next = ap (drop l.at) (sym same) ∙ A.next;
              }
