-- One token after another.
use Rattle.std.proofs.Common.{sym, ◌∙◌}
use Rattle.from_verilog.specs.declared.tokens.Kind.TheVariants.{Semicolon}
use Rattle.from_verilog.proofs.KindTests.{equal_number, unequal_number}
use Rattle.from_verilog.proofs.Passing.{pass_on, pass-bad, pass-end}
use Rattle.from_verilog.proofs.assigns.reads.Goals as goal

pub returns-then-not-passes : goal.returns-then-not-passes
returns-then-not-passes c = (
  _,
  pass-bad c.loop-names.invariant (unequal_number c.loop-names.token.kind Semicolon c.loop-names-test.ensures)
      (sym c.passes.ensures ∙ c.if-not-passes.true),
)

pub loop-names-preserved : goal.loop-names-preserved
loop-names-preserved c =
    pass_on c.loop-names.invariant (unequal_number c.loop-names.token.kind Semicolon c.loop-names-test.ensures)
    (sym c.passes.ensures ∙ c.if-not-passes.false) c.next-token-in-loop-names.ensures

pub returns : goal.returns
returns c = pass-end c.loop-names.invariant (equal_number c.loop-names.token.kind Semicolon c.loop-names-test.ensures)
