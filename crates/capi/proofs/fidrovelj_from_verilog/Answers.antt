-- `capi::fidrovelj_from_verilog`: what reading equations promises, and its number.
use Rattle.capi.proofs.Counts.{countable}
use native.Mathlib.Omega.{arith}
use borrow.Author.Rules.{rules}
use Rattle.capi.proofs.fidrovelj_from_verilog.Goals as goal

pub number-requires : goal.number-requires
number-requires c =
    countable c.from_verilog.ensures.answers
    (omega (
      arith,
      c.well_formed,
    ))

pub shape_of-out : goal.shape_of-out
shape_of-out c = c.from_verilog.auto.out

pub shape_of-operands : goal.shape_of-operands
shape_of-operands c = c.from_verilog.auto.operands

pub shape_of-results : goal.shape_of-results
shape_of-results c = c.from_verilog.auto.results

pub shape_of-heads : goal.shape_of-heads
shape_of-heads c = c.from_verilog.auto.heads

pub shape_of-words : goal.shape_of-words
shape_of-words c = c.from_verilog.auto.words

pub shape_of-links : goal.shape_of-links
shape_of-links c = c.from_verilog.auto.links

pub shape_of-states : goal.shape_of-states
shape_of-states c = c.from_verilog.auto.states

pub shape_of-wires : goal.shape_of-wires
shape_of-wires c = c.from_verilog.auto.wires

pub returns : goal.returns
returns c = record {
  answer = c.from_verilog.result;
  promise = rw c.sizes.ensures at c.from_verilog.ensures;
  told
      = search rules;
}
