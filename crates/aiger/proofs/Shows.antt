-- The examples hold, by computation.
use Rattle.aiger.specs.Lines.{file_line, file_lines}
use Rattle.netlist.specs.Number.{number, decimal}
use Rattle.netlist.specs.Write.{write_netlist}
use Rattle.aiger.specs.Made.{netlist_made}
use Rattle.aiger.specs.Call.{read_aiger, aiger_call}
use Rattle.aiger.specs.Examples.{Shown, examples}
use mathlib.Core.Path.{refl}

pub examples-shown : Shown examples
unfolding file_line file_lines number decimal write_netlist netlist_made read_aiger aiger_call
examples-shown = refl
