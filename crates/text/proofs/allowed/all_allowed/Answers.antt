-- The first look, or the second.
use mathlib.Core.Path.{sym, ◌∙◌}
use Rattle.netlist.proofs.LineEnds.{plain-allowed}
use Rattle.text.proofs.allowed.all_allowed.Goals as goal

pub returns-then-all_plain : goal.returns-then-all_plain
returns-then-all_plain c = c.if-all_plain.true
    ∙ sym (plain-allowed c.args.text.now (sym c.all_plain.ensures ∙ c.if-all_plain.true))
