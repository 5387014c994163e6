-- `write_gates` keeps its invariant: a line more is that of one more gate.
use Rattle.verilog_out.specs.Assigns.{assign_text, assign_of, spelling_at}
use Rattle.verilog_out.proofs.Lines.{one_more}
use Rattle.verilog_out.proofs.write.write_gates.Goals as goal

pub loop-gate-preserved : goal.loop-gate-preserved
loop-gate-preserved c =
    one_more (λ g. assign_text (assign_of (spelling_at c.args.spelled.now.wires.items) g)) _ c.loop-gate.gate-index _ _ _ _
    c.loop-gate-test.true c.loop-gate.invariant c.in_ok-write_gate.ensures
