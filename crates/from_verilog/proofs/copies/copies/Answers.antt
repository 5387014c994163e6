-- One port after another.
use Rattle.from_verilog.specs.declared.tokens.Kind.TheVariants.{Name}
use Rattle.from_verilog.proofs.KindTests.{this_number, other_number}
use Rattle.from_verilog.proofs.Copying.{copies-on, copies-end}
use Rattle.from_verilog.proofs.copies.copies.Goals as goal

pub loop-text-preserved : goal.loop-text-preserved
loop-text-preserved c =
    copies-on c.loop-text.invariant (this_number c.loop-text.token.kind Name c.loop-text-test.ensures)
    c.copy-free.ensures c.copy-free.auto.operands c.copy-free.auto.results c.next-comma.ensures
    c.next-token-in-loop-text.ensures

pub returns : goal.returns
returns c = copies-end c.loop-text.invariant (other_number c.loop-text.token.kind Name c.loop-text-test.ensures)
