-- The file read, and its netlist's text.
use mathlib.Core.List.{[], ◌∷◌}
use lib.ListN.{length}
use Rattle.netlist.specs.Table.{tables}
use Rattle.std.proofs.lemmas.Result.{err_from_is_err_and}
use Rattle.write_netlist.proofs.Telling.{file-read, file-not}
use Rattle.from_aiger.proofs.Calling.{asked-not, call-read}
use Rattle.from_aiger.proofs.answer.Goals as goal

pub returns-in_err-m : goal.returns-in_err-m
returns-in_err-m c =
    let s = c.args in
    let p = err_from_is_err_and c.from_residual.result c.from_residual.ensures.1 in
    rw (p.1, p.2) (call-read s.sizes s.text.now s.out.now s.operands.now s.results.now s.variables.now
    (file-not _ _ _ (asked-not (length s.operands.now ∷ length s.results.now ∷ length s.variables.now ∷ []) s.text.now
    c.source_limits.ensures
    c.in_err-m.ensures)))

pub returns : goal.returns
returns c =
    let s = c.args in
    let r = c.read in
    call-read s.sizes s.text.now s.out.now s.operands.now s.results.now s.variables.now
    (file-read _ (tables r.new.operands r.new.results) _ (rw c.source_limits.ensures at c.in_ok-m.ensures)
    c.write.ensures)
