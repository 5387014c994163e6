-- The faults tell of the bytes tested.
use Rattle.netlist.specs.Lists.{every}
use Rattle.netlist.specs.Read.{byte_allowed}
use Rattle.text.proofs.AllowedBytes.{Testing}
use Rattle.text.proofs.allowed.all_plain.Given as goal

abbrev pub invariant-loop-b : goal.invariant-loop-b
invariant-loop-b l = Testing (every byte_allowed) l.text l.faults l.b-index
