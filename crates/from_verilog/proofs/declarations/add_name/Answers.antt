-- The names in use looked through, and one more.
use Rattle.std.proofs.Common.{arith, rules, sym, ◌∙◌}
use Rattle.from_verilog.proofs.VerilogNamesCutting.{chained-cut, found-cut}
use Rattle.from_verilog.proofs.Declaring.{name-known, name-new}
use Rattle.from_verilog.proofs.declarations.add_name.Goals as goal

pub invariant_of-names : goal.invariant_of-names
invariant_of-names c = record { chained = chained-cut c.requires.0 }

pub returns-then-is_some : goal.returns-then-is_some
returns-then-is_some c =
    name-known _ (omega arith) (c.find.ensures.entry ∙ found-cut _ _ _ _ c.requires.0.worded)
    (sym c.is_some.ensures ∙ c.if-is_some.true)

pub returns : goal.returns
returns c =
    name-new _ (omega arith) (c.find.ensures.entry ∙ found-cut _ _ _ _ c.requires.0.worded)
    (sym c.is_some.ensures ∙ c.if-is_some.false) c.add.ensures
    (search rules)
