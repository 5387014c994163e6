-- The text read, and its netlist written.
use Rattle.std.proofs.Common.{arith}
use Rattle.std.proofs.lemmas.Result.{err_from_is_err_and}
use Rattle.netlist.specs.Table.{tables}
use Rattle.write_netlist.proofs.Telling.{file-read, file-not}
use Rattle.from_verilog.proofs.Calling.{small-fits}
use Rattle.from_verilog.proofs.read_and_write.Goals as goal

pub read-requires : goal.read-requires
read-requires c =
    let p = c.requires in
    let F = small-fits c.args.sizes in
    rw c.source_limits.ensures (record {
      cleared = p.cleared;
      names_fit = p.names_fit;
      limits = (
        F.names,
        F.tables,
        F.places,
        omega (arith, F.gates, p.gates_fit.0),
        omega
            (arith, F.gates, p.gates_fit.1),
      );
    })

pub returns-in_err-m : goal.returns-in_err-m
returns-in_err-m c =
    let p = err_from_is_err_and c.from_residual.result c.from_residual.ensures.1 in
    rw (p.1, p.2) (file-not _ _ _ (rw c.source_limits.ensures at c.in_err-m.ensures))

pub returns : goal.returns
returns c =
    let r = c.read in
    file-read _ (tables r.new.operands r.new.results) _ (rw c.source_limits.ensures at c.in_ok-m.ensures)
    c.write.ensures
