-- The lines of the gates so far.
use Rattle.std.proofs.Common.{◌≡◌, ◌++◌, take, string_bytes}
use Rattle.verilog_out.specs.Assigns.{gate_lines, spelling_at}
use Rattle.verilog_out.proofs.write.write_gates.Given as goal

abbrev pub invariant-loop-gate : goal.invariant-loop-gate
invariant-loop-gate l =
    string_bytes l.out ≡ string_bytes l.fn.out ++ gate_lines (spelling_at l.spelled.wires.items) (take l.gate-index l.gates)
