-- `written`: the first no, or the text.
use Rattle.std.proofs.Common.{ℕ, List, [], ◌∷◌, length}
use Rattle.std.proofs.lemmas.Result.{err_from_is_err_and}
use Rattle.netlist.specs.Netlist.{source_limits}
use Rattle.session.specs.Shown.{text_call}
use Rattle.session.proofs.Showing.{head-no, records-no, stands-at}
use Rattle.session.proofs.Calling.{text-no, text-written}
use Rattle.session.proofs.results.written.Goals as goal

pub returns-in_err-shown : goal.returns-in_err-shown
returns-in_err-shown c =
    let a = c.args in
    let p = err_from_is_err_and c.from_residual.result c.from_residual.ensures.1 in
    let lengths : List ℕ = length a.operands.now ∷ length a.results.now ∷ [] in
    rw (p.1, p.2) (text-no a.sizes a.given.widths.now a.given.outputs.now a.given.session a.given.source.now a.out.now
    a.operands.now
    a.results.now
    (head-no (source_limits a.sizes) lengths a.given.widths.now a.given.outputs.now a.given.session.gates
    a.given.source.now
    c.in_err-shown.ensures))

pub returns-in_err-gates : goal.returns-in_err-gates
returns-in_err-gates c =
    let a = c.args in
    let p = err_from_is_err_and c.from_residual-in_err-gates.result c.from_residual-in_err-gates.ensures.1 in
    let lengths : List ℕ = length a.operands.now ∷ length a.results.now ∷ [] in
    rw (p.1, p.2) (text-no a.sizes a.given.widths.now a.given.outputs.now a.given.session a.given.source.now a.out.now
    a.operands.now
    a.results.now
    (records-no a.sizes lengths a.given.widths.now a.given.outputs.now a.given.session.gates a.given.source.now
    c.in_ok-shown.ensures
    c.in_err-gates.ensures))

pub returns : goal.returns
unfolding text_call
returns c =
    let a = c.args in
    let lengths : List ℕ = length a.operands.now ∷ length a.results.now ∷ [] in
    text-written (stands-at a.sizes lengths a.given.widths.now a.given.outputs.now a.given.session.gates
    a.given.source.now
    c.in_ok-shown.ensures c.in_ok-gates.ensures) c.deliver.ensures
