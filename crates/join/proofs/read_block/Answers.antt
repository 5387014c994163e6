-- `read_block`: a block that questions 1 to 11 admit.
use Rattle.std.proofs.Common.{◌∷◌, length}
use Rattle.netlist.specs.Table.{tables}
use Rattle.join.proofs.Calling.{block-is}
use Rattle.join.proofs.read_block.Goals as goal

pub returns : goal.returns
returns c =
    let s = c.args in
    let t = c.read in
    let ls = length s.operands.now ∷ length s.results.now ∷ length s.marks.now ∷ s.others.now in
    block-is c.masked_limits-l.result ls s.text.now s.codes.now t.new.inputs t.new.outputs
    (tables t.new.operands t.new.results) c.in_ok-h.ensures c.masked_limits-l.ensures
    c.in_ok-ask_codes.ensures.asked
