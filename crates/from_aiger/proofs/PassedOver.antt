-- Whatever stands after the last line, and an LF, is passed over (docs/RULES.md, AIGER).
use Prim.Native.Nat.{ℕ, zero, suc, ◌+◌, ◌≤◌}
use mathlib.Core.Path.{◌≡◌, refl, sym, ap, ◌∙◌}
use mathlib.Core.Bool.{Bool, true, false, cond, ◌&&◌}
use mathlib.Core.List.{List, [], ◌∷◌, ◌++◌, map, map-append}
use mathlib.Core.Option.{Option, some}
use native.Mathlib.Omega.{arith}
use lib.Dec.{T, eqb}
use lib.ListN.{length, take, drop}
use borrow.Author.Tests.{le-leb}
use Rattle.netlist.specs.declared.Limits.{Limits}
use Rattle.netlist.specs.Lists.{ascii, same_bytes}
use Rattle.netlist.specs.Text.{lf, cr, lf_ends, is_line_end, onto, split, filled, space_words}
use Rattle.netlist.specs.Header.{numbers}
use Rattle.netlist.specs.Netlist.{Netlist}
use Rattle.netlist.specs.Outcome.{done}
use Rattle.netlist.proofs.Tests.{both, pair}
use Rattle.netlist.proofs.Questions.{none-some}
use Rattle.text.specs.Line.{first_line, after_line}
use Rattle.aiger.specs.File.{File}
use Rattle.aiger.specs.Lines.{file_line, file_lines, Head, head_of, lines_after, output_line, and_form, formed}
use Rattle.aiger.specs.Lines.{input_line, file}
use Rattle.aiger.specs.Call.{read_aiger}
use Rattle.aiger.specs.Delivered.{Stands}
use Rattle.aiger.proofs.Forms.{if_some-some, file-formed, formed-file}
use Rattle.aiger.proofs.Reading.{aiger-read, aiger-accepted}

-- the last byte is a CR, which an LF after it would make part of a line's end
abbrev pub ends_in_cr : List ℕ → Bool
ends_in_cr [] = false
ends_in_cr (x ∷ []) = eqb x cr
ends_in_cr (x ∷ (y ∷ t)) = ends_in_cr (y ∷ t)

-- ---- line ends

ends-append : (t x : List ℕ) → ends_in_cr t ≡ false → lf_ends (t ++ lf ∷ x) ≡ lf_ends t ++ lf ∷ lf_ends x
ends-append [] x h = refl
ends-append (a ∷ []) x h = rw h
ends-append (a ∷ (b ∷ t)) x h = go (eqb a cr && eqb b lf) (ends-append (b ∷ t) x h)
  where
    go : (c : Bool) → lf_ends (b ∷ (t ++ lf ∷ x)) ≡ lf_ends (b ∷ t) ++ lf ∷ lf_ends x
        → cond c (lf_ends (b ∷ (t ++ lf ∷ x))) (a ∷ lf_ends (b ∷ (t ++ lf ∷ x)))
        ≡ cond c (lf_ends (b ∷ t)) (a ∷ lf_ends (b ∷ t)) ++ lf ∷ lf_ends x
    go true e = e
    go false e = ap (λ (u : List ℕ). a ∷ u) e

ends-drop : (k : ℕ) (t : List ℕ) → ends_in_cr t ≡ false → ends_in_cr (drop k t) ≡ false
ends-drop zero t h = h
ends-drop (suc k) [] h = refl
ends-drop (suc k) (a ∷ []) h = ends-drop k [] refl
ends-drop (suc k) (a ∷ (b ∷ t)) h = ends-drop k (b ∷ t) h

-- ---- the first line

first-append : (t x : List ℕ) → first_line (t ++ lf ∷ x) ≡ first_line t
first-append [] x = refl
first-append (a ∷ t) x = ap (λ (u : List ℕ). cond (is_line_end a) [] (a ∷ u)) (first-append t x)

-- ---- lines

onto-append : (x : ℕ) (ps qs : List (List ℕ)) → 1 ≤ length ps → onto x (ps ++ qs) ≡ onto x ps ++ qs
onto-append x [] qs h = absurd (omega arith)
onto-append x (p ∷ ps) qs h = refl

some-part : (p : ℕ → Bool) (t : List ℕ) → 1 ≤ length (split p t)
some-part p [] = omega arith
some-part p (x ∷ t) = go (p x) (split p t)
  where
    go : (c : Bool) (ps : List (List ℕ)) → 1 ≤ length (cond c ([] ∷ ps) (onto x ps))
    go true ps = omega arith
    go false [] = omega arith
    go false (p ∷ ps) = omega arith

split-append : (t s : List ℕ) → split is_line_end (t ++ lf ∷ s) ≡ split is_line_end t ++ split is_line_end s
split-append [] s = refl
split-append (x ∷ t) s = go (is_line_end x) (split-append t s)
  where
    go : (c : Bool) → split is_line_end (t ++ lf ∷ s) ≡ split is_line_end t ++ split is_line_end s
        → cond c ([] ∷ split is_line_end (t ++ lf ∷ s)) (onto x (split is_line_end (t ++ lf ∷ s)))
        ≡ cond c ([] ∷ split is_line_end t) (onto x (split is_line_end t)) ++ split is_line_end s
    go true e = ap (λ (ps : List (List ℕ)). [] ∷ ps) e
    go false e = ap (onto x) e ∙ onto-append x (split is_line_end t) (split is_line_end s) (some-part is_line_end t)

filled-append : (ps qs : List (List (List ℕ))) → filled (ps ++ qs) ≡ filled ps ++ filled qs
filled-append [] qs = refl
filled-append ([] ∷ ps) qs = filled-append ps qs
filled-append ((x ∷ p) ∷ ps) qs = ap (λ (r : List (List (List ℕ))). (x ∷ p) ∷ r) (filled-append ps qs)

lines-append : (t s : List ℕ) → ends_in_cr t ≡ false → file_lines (t ++ lf ∷ s) ≡ file_lines t ++ file_lines s
unfolding file_lines
lines-append t s h =
    ap (λ (u : List ℕ). filled (map space_words (split is_line_end u))) (ends-append t s h)
    ∙ ap (λ (ps : List (List ℕ)). filled (map space_words ps)) (split-append (lf_ends t) (lf_ends s))
    ∙ ap filled (map-append space_words (split is_line_end (lf_ends t)) (split is_line_end (lf_ends s)))
    ∙ filled-append (map space_words (split is_line_end (lf_ends t))) (map space_words (split is_line_end (lf_ends s)))

line-append : (t x : List ℕ) → ends_in_cr t ≡ false → file_line (t ++ lf ∷ x) ≡ file_line t
unfolding file_line
line-append t x h = ap (λ (u : List ℕ). space_words (first_line u)) (ends-append t x h)
    ∙ ap space_words (first-append (lf_ends t) (lf_ends x))

-- the lines after the first, whether or not it ends in t
after-append : (t x : List ℕ) → ends_in_cr t ≡ false → file_lines (after_line (t ++ lf ∷ x)) ≡ file_lines (after_line t)
    ++ file_lines x
unfolding file_lines
after-append [] x h = refl
after-append (a ∷ []) x h = go (is_line_end a)
  where
    go : (c : Bool) → file_lines (cond c (lf ∷ x) x) ≡ file_lines (cond {A = List ℕ} c [] []) ++ file_lines x
    go true = refl
    go false = refl
after-append (a ∷ (b ∷ t)) x h = go (is_line_end a) (after-append (b ∷ t) x h)
  where
    go : (c : Bool) → file_lines (after_line (b ∷ (t ++ lf ∷ x))) ≡ file_lines (after_line (b ∷ t)) ++ file_lines x
        → file_lines (cond c (b ∷ (t ++ lf ∷ x)) (after_line (b ∷ (t ++ lf ∷ x))))
        ≡ file_lines (cond c (b ∷ t) (after_line (b ∷ t))) ++ file_lines x
    go true e = lines-append (b ∷ t) x h
    go false e = e

-- ---- the opening

front-more : (w t x : List ℕ) → T (same_bytes (take (length w) t) w) → T (same_bytes (take (length w) (t ++ x)) w)
front-more [] t x h = h
front-more (b ∷ w) [] x h = absurd h
front-more (b ∷ w) (a ∷ t) x h =
    let p = both (eqb a b) (same_bytes (take (length w) t) w) h in
    pair (eqb a b) (same_bytes (take (length w) (t ++ x)) w) p.0 (front-more w t x p.1)

-- after so many bytes that stand there
drop_more : (w t x : List ℕ) → T (same_bytes (take (length w) t) w) → drop (length w) (t ++ x) ≡ drop (length w) t ++ x
drop_more [] t x h = refl
drop_more (b ∷ w) [] x h = absurd h
drop_more (b ∷ w) (a ∷ t) x h = drop_more w t x (both (eqb a b) (same_bytes (take (length w) t) w) h).1

-- ---- lines of a form

module _ {A : Type 0} (f : List (List ℕ) → Option A) where
  formed-more : (j k : ℕ) (ls more : List (List (List ℕ))) (xs : List A) → formed f k (drop j ls) ≡ some xs
      → formed f k (drop j (ls ++ more)) ≡ some xs
  formed-more zero zero ls more xs e = e
  formed-more zero (suc k) [] more xs e = absurd (none-some xs e)
  formed-more zero (suc k) (l ∷ ls) more xs e =
      let p = if_some-some (f l) _ xs e in
      let q = if_some-some (formed f k ls) _ xs p.2 in
      let r : formed f k (ls ++ more) ≡ some q.0 = formed-more zero k ls more q.0 q.1 in
      rw (p.1, r) q.2
  formed-more (suc j) zero [] more xs e = e
  formed-more (suc j) (suc k) [] more xs e = absurd (none-some xs e)
  formed-more (suc j) k (l ∷ ls) more xs e = formed-more j k ls more xs e

file-more : (H : Head) (ls more : List (List (List ℕ))) (F : File) → file H ls ≡ some F → file H (ls ++ more) ≡ some F
file-more H ls more F e =
    let f = file-formed H ls F e in
    formed-file H (ls ++ more) F (record {
      most = f.most;
      inputs = formed-more input_line 0 H.inputs ls more F.inputs f.inputs;
      outputs = formed-more output_line H.inputs H.outputs ls more F.outputs f.outputs;
      ands = formed-more and_form (H.inputs + H.outputs) H.ands ls more F.ands f.ands;
    })

-- ---- a whole text

pub passed_over : (L : Limits) (t x : List ℕ) (N : Netlist) → read_aiger L t ≡ done N → ends_in_cr t ≡ false
    → length (t ++ lf ∷ x) ≤ L.text
    → read_aiger L (t ++ lf ∷ x) ≡ done N
passed_over L t x N e h l =
    let R = aiger-read L t N e in
    let S = R.stands in
    let d : drop 4 (t ++ lf ∷ x) ≡ drop 4 t ++ lf ∷ x = drop_more (ascii "aag ") t (lf ∷ x) S.opening in
    let k = ends-drop 4 t h in
    let line : file_line (drop 4 (t ++ lf ∷ x)) ≡ file_line (drop 4 t) = ap file_line d ∙ line-append (drop 4 t) x k in
    let more : lines_after (t ++ lf ∷ x) ≡ lines_after t ++ file_lines x
    = ap (λ (u : List ℕ). file_lines (after_line u)) d ∙ after-append (drop 4 t) x k in
    let T' : Stands L (t ++ lf ∷ x) = record {
      size = rw (le-leb (length (t ++ lf ∷ x)) L.text l) tt;
      opening = front-more (ascii "aag ") t (lf ∷ x) S.opening;
      header = S.header;
      first = ap (λ (ws : List (List ℕ)). head_of (numbers ws)) line ∙ S.first;
      good = S.good;
      latches = S.latches;
      is = S.is;
      lines = ap (file S.header) more ∙ file-more S.header (lines_after t) (file_lines x) S.is S.lines;
      rules = S.rules;
      limits = S.limits;
    } in
    aiger-accepted L (t ++ lf ∷ x) T' ∙ ap done (sym R.made)
