-- One token after another.
use Rattle.from_verilog.specs.declared.tokens.Kind.TheVariants.{Semicolon, End}
use Rattle.from_verilog.proofs.KindTests.{this_number, other_number, equal_number, unequal_number}
use Rattle.from_verilog.proofs.Passing.{past-on, past_end, past-none}
use Rattle.from_verilog.proofs.assigns.past.Goals as goal

pub returns-then-eq : goal.returns-then-eq
returns-then-eq c =
    let k = c.loop-token.token.kind in
    past-none c.loop-token.invariant (unequal_number k Semicolon c.loop-token-test.ensures)
    (this_number k End c.if-eq.ensures)

pub loop-token-preserved : goal.loop-token-preserved
loop-token-preserved c =
    let k = c.loop-token.token.kind in
    past-on c.loop-token.invariant (unequal_number k Semicolon c.loop-token-test.ensures)
    (other_number k End c.if-eq.ensures)
    c.next-token-in-loop-token.ensures

pub returns : goal.returns
returns c = past_end c.loop-token.invariant (equal_number c.loop-token.token.kind Semicolon c.loop-token-test.ensures)
