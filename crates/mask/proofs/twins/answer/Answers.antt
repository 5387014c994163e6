-- `answer`: the source read, and its twins.
use Rattle.std.proofs.lemmas.Result.{err_from_is_err_and}
use Rattle.mask.proofs.TwinsPromised.{call-not, call-read}
use Rattle.mask.proofs.twins.answer.Goals as goal

pub returns-in_err-netlist : goal.returns-in_err-netlist
returns-in_err-netlist c =
    let s = c.args in
    let p = err_from_is_err_and c.from_residual.result c.from_residual.ensures.1 in
    let k = rw c.source_limits.ensures at c.in_err-netlist.ensures in
    rw (p.1, p.2) (call-not s.sizes s.text.now s.codes.now _ _ s.operands.now s.results.now s.marks.now k)

pub returns : goal.returns
returns c =
    let s = c.args in
    let k = rw c.source_limits.ensures at c.in_ok-netlist.ensures in
    call-read s.sizes s.text.now s.codes.now s.wires.now s.out_codes.now s.operands.now s.results.now s.marks.now k
    c.deliver.ensures
