-- A name, by its state.
use Rattle.std.proofs.Common.{ap}
use Rattle.from_verilog.specs.Kind.{number_of}
use Rattle.from_verilog.proofs.Passing.{passes-name}
use Rattle.from_verilog.proofs.assigns.passes.Goals as goal

pub returns-in-Name : goal.returns-in-Name
returns-in-Name c = rw c.number.ensures (passes-name _ _ _ _ _ _ _ (ap number_of c.in-Name.is) c.wire_of-state.ensures)
