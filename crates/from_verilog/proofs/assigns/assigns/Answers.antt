-- One assignment after another.
use Rattle.std.proofs.Common.{refl}
use Rattle.from_verilog.specs.declared.tokens.Kind.TheVariants.{Assign}
use Rattle.from_verilog.proofs.KindTests.{this_number, other_number}
use Rattle.from_verilog.proofs.Settling.{settle-on, settle-unread, settle-closed, settle-end}
use Rattle.from_verilog.proofs.assigns.assigns.Goals as goal

pub returns-in_default : goal.returns-in_default
returns-in_default c =
    settle-unread c.loop-text.invariant (this_number c.loop-text.token.kind Assign c.loop-text-test.ensures)
    c.next-name.ensures c.next-equals.ensures c.in_default.ensures.1 refl

pub returns-then-not-assign : goal.returns-then-not-assign
returns-then-not-assign c =
    settle-closed c.loop-text.invariant (this_number c.loop-text.token.kind Assign c.loop-text-test.ensures)
    c.next-name.ensures c.next-equals.ensures c.in-Some.ensures c.assign.ensures c.if-not-assign.true

pub loop-text-preserved : goal.loop-text-preserved
loop-text-preserved c =
    settle-on c.loop-text.invariant (this_number c.loop-text.token.kind Assign c.loop-text-test.ensures)
    c.next-name.ensures c.next-equals.ensures c.in-Some.ensures c.assign.ensures refl c.if-not-assign.false
    c.assign.auto.states c.next-token-in-loop-text.ensures

pub returns : goal.returns
returns c = settle-end c.loop-text.invariant (other_number c.loop-text.token.kind Assign c.loop-text-test.ensures)
