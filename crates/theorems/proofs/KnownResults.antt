-- The known results hold, by computation (docs/RULES.md, Known results).
use Rattle.netlist.specs.Text.{words, word_lines}
use Rattle.netlist.specs.Number.{number, decimal}
use Rattle.netlist.specs.GateLine.{gate_line}
use Rattle.netlist.specs.Read.{opening, read_netlist}
use Rattle.netlist.specs.Write.{write_netlist}
use Rattle.netlist.specs.Eval.{wire_bits}
use Rattle.masking.specs.Mask.{mask_netlist}
use Rattle.masking.specs.Leak.{count, leak}
use Rattle.masking.specs.Calls.{mask_call, check_call}
use Rattle.program.specs.Programs.{list_file, mask_program, check_program}
use Rattle.theorems.specs.Known.{Known, rows}
use mathlib.Core.Path.{refl}

pub known-results : Known rows
unfolding words word_lines number decimal gate_line opening read_netlist write_netlist wire_bits mask_netlist count leak
    mask_call check_call list_file mask_program check_program
known-results = refl
