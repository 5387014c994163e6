-- CRs that do not stand before LF, and what stands between words and lines.
use Rattle.std.specs.Prelude.{ℕ, suc, ◌≤◌, ◌≡◌, Bool, false, cond, not, ◌&&◌, List, [], ◌∷◌, eqb, drop}
use Rattle.netlist.specs.Text.{space, cr, at_lf}
use Rattle.text.specs.Line.{is_blank}
use Rattle.aiger.specs.Lines.{file_lines}

-- a text begins with such a CR
abbrev pub is_stray : List ℕ → Bool
is_stray [] = false
is_stray (x ∷ xs) = eqb x cr && not (at_lf xs)

-- the place of its first; its length where there is none
abbrev pub stray_at : List ℕ → ℕ
stray_at [] = 0
stray_at (x ∷ xs) = cond (eqb x cr && not (at_lf xs)) 0 (suc (stray_at xs))

-- it begins with a byte that is part of no word: a space, LF, or the CR of CR LF
abbrev pub is_between : List ℕ → Bool
is_between [] = false
is_between (x ∷ xs) = is_blank x && not (eqb x cr && not (at_lf xs))

-- what parts the words of a line
abbrev pub is_plain : ℕ → Bool
is_plain x = eqb x space

-- from one place to the next word, past bytes that are part of none
pub record ToWord (t : List ℕ) (from to : ℕ) : Type 0 where
  pub lines : file_lines (drop to t) ≡ file_lines (drop from t)
  pub still : is_between (drop to t) ≡ false
  pub on : from ≤ to
  pub before : to ≤ stray_at t
