-- From a header and the lines after it to the questions of a whole file.
use Prim.Native.Nat.{ℕ, ◌≤◌, ◌<◌}
use mathlib.Core.Path.{◌≡◌, refl, sym, ap, ◌∙◌, subst}
use mathlib.Core.Bool.{true}
use mathlib.Core.List.{List}
use mathlib.Core.Option.{Option, none, some}
use lib.ListN.{length, drop}
use borrow.Author.Tests.{le-leb, lt-leb}
use Rattle.std.specs.Prelude.{Result}
use Rattle.netlist.specs.declared.Limits.{Limits}
use Rattle.netlist.specs.declared.Refusal.{Refusal}
use Rattle.netlist.specs.Netlist.{Netlist}
use Rattle.netlist.specs.Outcome.{Outcome, refused, given, and_then}
use Rattle.netlist.specs.Table.{Tables}
use Rattle.netlist.proofs.Tests.{on_bool}
use Rattle.aiger.specs.File.{File}
use Rattle.aiger.specs.Lines.{Head, file, file_lines}
use Rattle.aiger.specs.Rules.{rules_kept}
use Rattle.aiger.specs.Call.{head_outcome, file_outcome, lines_read, lines_outcome, read_aiger}
use Rattle.from_aiger.specs.declared.lines.Lines.{Lines}
use Rattle.from_aiger.specs.LineAnswers.{lines_left}
use Rattle.from_aiger.specs.HeadAnswers.{head_said, HeadAt}
use Rattle.write_netlist.specs.Made.{NetlistIs}
use Rattle.from_aiger.specs.declared.counts.HeadNumbers.{HeadNumbers}
use Rattle.write_netlist.specs.declared.made.NetlistNumbers.{NetlistNumbers}

module _ (L : Limits) (H : Head) (ls : List (List (List ℕ))) where
  -- no such file
  pub lines-refused : ((F : File) → file H ls ≡ some F → rules_kept F ≡ true → ⊥) → lines_read L H ls ≡ refused 19
  lines-refused bad = go (file H ls) bad
    where
      go : (o : Option File) → ((F : File) → o ≡ some F → rules_kept F ≡ true → ⊥)
          → and_then (given 19 o) (file_outcome L) ≡ refused 19
      go none f = refl
      go (some F) f = on_bool (rules_kept F) (λ e. absurd (f F refl e)) (λ e. rw e)

-- ---- the questions of a text

module _ (L : Limits) (t : List ℕ) where
  -- question 2
  pub read-long : L.text < length t → read_aiger L t ≡ refused 2
  unfolding read_aiger
  read-long h = rw (lt-leb (length t) L.text h)

  module _ (h : length t ≤ L.text) where
    -- 19 of the opening and the header, and 20
    pub read-no-head : (q : ℕ) → head_outcome L t ≡ refused q → read_aiger L t ≡ refused q
    unfolding read_aiger
    read-no-head q e = rw (le-leb (length t) L.text h) (ap (λ (o : Outcome Head). and_then o (lines_outcome L t)) e)

    following : {n : HeadNumbers} {m : Lines} → HeadAt L t n m → read_aiger L t ≡ lines_read L (head_said n)
        (lines_left m)
    unfolding read_aiger
    following {n} {m} A =
        rw (le-leb (length t) L.text h)
        (ap (λ (o : Outcome Head). and_then o (lines_outcome L t)) A.outcome
        ∙ ap (λ (s : List ℕ). lines_read L (head_said n) (file_lines s)) (sym A.next ∙ ap (drop m.at) (sym A.text)))

    pub read_after : {n : HeadNumbers} {m : Lines} (tabs : Tables) (r : Result NetlistNumbers Refusal) → HeadAt L t n m
        → NetlistIs (lines_read L (head_said n) (lines_left m)) tabs r
        → NetlistIs (read_aiger L t) tabs r
    read_after tabs r A k = subst (λ (o : Outcome Netlist). NetlistIs o tabs r) (sym (following A)) k
