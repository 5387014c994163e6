-- The bytes that are left decide.
use Rattle.std.proofs.Common.{◌<◌, ◌≡◌, drop}
use Rattle.netlist.specs.Table.{half}
use Rattle.from_verilog.specs.Names.{number_from, number}
use Rattle.from_verilog.proofs.names.hash.Given as goal

abbrev pub invariant-loop-b : goal.invariant-loop-b
invariant-loop-b l = (l.h < half) × (number_from l.h (drop l.b-index l.name) ≡ number l.name)
