-- A step of the reader, from what stands at its place.
use Prim.Native.Nat.{ℕ, ◌<◌, ◌≤◌}
use Rattle.std.specs.Prelude.{Some, None, Ok, Err}
use mathlib.Core.Path.{◌≡◌, sym, ap, ◌∙◌}
use mathlib.Core.List.{List, [], ◌∷◌}
use mathlib.Core.Option.{none, some}
use native.Mathlib.Omega.{arith}
use lib.ListN.{length, drop}
use Rattle.netlist.specs.declared.Gate.{Gate}
use Rattle.netlist.specs.declared.Refusal.TheVariants as Q
use Rattle.netlist.specs.Text.{word_lines}
use Rattle.netlist.specs.GateLine.{gate_line}
use Rattle.netlist.specs.GateReader.{says}
use Rattle.text.specs.Line.{line_words, after_line, is_blank}
use Rattle.text.specs.Cursors.{left, LineTaken, Scanned}
use Rattle.text.specs.declared.cursor.Cursor.{Cursor}
use Rattle.text.proofs.Lines.{word_line, no_line, line_on}
use Rattle.text.proofs.Cursors.{stands-at-word, lines-following-blanks, following-its-line, line-places}
use Rattle.reader.specs.Steps.{StepIs}

no_lines : (t : List ℕ) (at : ℕ) → word_lines (drop at t) ≡ [] → StepIs t at (Ok None)
unfolding says
no_lines t at e = record { said = sym (ap says e); passed = tt }

-- the place is past the end
pub end-past : (t : List ℕ) (at : ℕ) → length t ≤ at → StepIs t at (Ok None)
end-past t at h = no_lines t at (no_line t at h)

module _ (at from : Cursor) (s : Scanned is_blank at from) where
  text : from.text.now ≡ at.text.now
  text = ap (λ t. t.now) s.same

  -- only blank lines follow
  pub end-blank : length at.text.now ≤ from.at → StepIs at.text.now at.at (Ok None)
  end-blank h = no_lines at.text.now at.at (sym (lines-following-blanks at from s) ∙ no_line from.text.now from.at
      (rw text h))

  module _ (h : from.at < length at.text.now) where
    there : from.at < length from.text.now
    there = rw text h

    here : word_lines (left at) ≡ line_words (left from) ∷ word_lines (after_line (left from))
    here = sym (lines-following-blanks at from s) ∙ word_line from.text.now from.at there (stands-at-word at from s)

    -- the line is no gate
    pub no_step : none ≡ gate_line (line_words (left from)) → StepIs at.text.now at.at (Err Q.Line)
    unfolding says
    no_step e = record { said = sym (ap says here ∙ rw (sym e)); passed = tt }

    -- the line is a gate
    pub on_step : (g : Gate) (to : Cursor) → some g ≡ gate_line (line_words (left from)) → LineTaken from to
        → StepIs at.text.now at.at (Ok (Some (g, to.at)))
    unfolding says
    on_step g to e l =
        let o : from.at < to.at = line_on from.text.now from.at to.at there (line-places from to l) in
        let w : to.text.now ≡ at.text.now = ap (λ t. t.now) (l.same ∙ s.same) in
        record {
          said = sym (ap says here ∙ rw (sym e));
          passed = (
            ap (drop to.at) (sym w) ∙ following-its-line at from s to l,
            omega (arith, s.on),
            (let i = to.within in rw (sym w) i),
          );
        }
