-- The numbers before the entry are in the table, and the spaces after them are passed.
use Rattle.std.proofs.Common.{ℕ, ◌≡◌}
use Rattle.text.specs.Line.{Scanned}
use Rattle.from_aiger.specs.Stray.{is_plain}
use Rattle.from_aiger.proofs.NumberLines.{Numbering}
use Rattle.from_aiger.proofs.lines.Lines.numbers.Given as goal

abbrev pub invariant-loop-entry : goal.invariant-loop-entry
invariant-loop-entry g l =
    (l.at.text ≡ l.self.text) × (p : ℕ) × Numbering l.self.text.now l.self.at g.row.N l.entry-items p l.entry-index
    × Scanned is_plain l.self.text.now p l.at.at
