-- One assignment after another.
use Rattle.from_verilog.specs.declared.tokens.Kind.TheVariants.{Assign}
use Rattle.from_verilog.proofs.KindTests.{this_number, other_number}
use Rattle.from_verilog.proofs.Assigning.{go-start, go-ready, go_on, go-less, go-end}
use Rattle.from_verilog.proofs.equations.equations.Goals as goal

pub loop-text-init : goal.loop-text-init
loop-text-init c = go-start c.requires c.next-token.ensures

pub expression-v-requires : goal.expression-v-requires
expression-v-requires c =
    go-ready c.loop-text.invariant c.next-target.ensures
    c.next-equals.ensures

pub loop-text-smaller : goal.loop-text-smaller
loop-text-smaller c =
    go-less
    c.loop-text.invariant
    c.next-target.ensures
    c.next-equals.ensures
    c.expression-v.ensures
    (this_number c.loop-text.token.kind Assign c.loop-text-test.ensures)
    c.next-token-in-loop-text.ensures

pub loop-text-preserved : goal.loop-text-preserved
loop-text-preserved c =
    go_on c.loop-text.invariant c.next-target.ensures
    c.next-equals.ensures
    c.expression-v.ensures
    (this_number c.loop-text.token.kind Assign c.loop-text-test.ensures)
    c.expression-v.auto.operands
    c.expression-v.auto.results
    c.give.ensures c.next-token-in-loop-text.ensures

pub shape_of-wires : goal.shape_of-wires
shape_of-wires c = c.loop-text.invariant.wide

pub shape_of-operands : goal.shape_of-operands
shape_of-operands c = c.loop-text.invariant.operands

pub shape_of-results : goal.shape_of-results
shape_of-results c = c.loop-text.invariant.results

pub returns : goal.returns
returns c = go-end c.loop-text.invariant (other_number c.loop-text.token.kind Assign c.loop-text-test.ensures)
