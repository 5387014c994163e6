-- `masked_in`: the first no, or what Mask gives.
use Rattle.std.proofs.Common.{ℕ, List, [], ◌∷◌, length}
use Rattle.std.proofs.lemmas.Result.{err_from_is_err_and}
use Rattle.netlist.specs.Netlist.{source_limits}
use Rattle.session.specs.Shown.{masked_call}
use Rattle.session.proofs.Showing.{head-no, records-no, stands-at}
use Rattle.session.proofs.Calling.{masked-no, masked-written, netlist-read}
use Rattle.session.proofs.results.masked_in.Goals as goal

pub returns-in_err-shown : goal.returns-in_err-shown
returns-in_err-shown c =
    let a = c.args in
    let p = err_from_is_err_and c.from_residual.result c.from_residual.ensures.1 in
    let lengths : List ℕ = length a.operands.now ∷ length a.results.now ∷ length a.marks.now ∷ length a.wires.now ∷ []
    in
    rw (p.1, p.2) (masked-no a.sizes a.given.widths.now a.given.outputs.now a.given.session a.given.source.now
    a.codes.now a.wanted.now
    a.out.now a.out_codes.now
    a.operands.now a.results.now a.wires.now a.marks.now
    (head-no (source_limits a.sizes) lengths a.given.widths.now a.given.outputs.now a.given.session.gates
    a.given.source.now
    c.in_err-shown.ensures))

pub returns-in_err-gates : goal.returns-in_err-gates
returns-in_err-gates c =
    let a = c.args in
    let p = err_from_is_err_and c.from_residual-in_err-gates.result c.from_residual-in_err-gates.ensures.1 in
    let lengths : List ℕ = length a.operands.now ∷ length a.results.now ∷ length a.marks.now ∷ length a.wires.now ∷ []
    in
    rw (p.1, p.2) (masked-no a.sizes a.given.widths.now a.given.outputs.now a.given.session a.given.source.now
    a.codes.now a.wanted.now
    a.out.now a.out_codes.now
    a.operands.now a.results.now a.wires.now a.marks.now
    (records-no a.sizes lengths a.given.widths.now a.given.outputs.now a.given.session.gates a.given.source.now
    c.in_ok-shown.ensures
    c.in_err-gates.ensures))

pub returns : goal.returns
unfolding masked_call
returns c =
    let a = c.args in
    let lengths : List ℕ = length a.operands.now ∷ length a.results.now ∷ length a.marks.now ∷ length a.wires.now ∷ []
    in
    let n = stands-at a.sizes lengths a.given.widths.now a.given.outputs.now a.given.session.gates a.given.source.now
    c.in_ok-shown.ensures c.in_ok-gates.ensures in
    let e = c.new-coded.ensures in
    masked-written a.codes.now a.wanted.now n (rw (e.1, e.2) at (c.ask_lists.ensures n.is (rw e.0 (netlist-read n))))
