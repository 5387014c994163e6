-- The joins worked out by hand, by computation.
use mathlib.Core.Path.{refl}
use Rattle.netlist.specs.Text.{words, word_lines}
use Rattle.netlist.specs.GateLine.{gate_line}
use Rattle.netlist.specs.Read.{opening, read_netlist}
use Rattle.netlist.specs.Number.{number, decimal}
use Rattle.netlist.specs.Write.{write_netlist}
use Rattle.join.specs.Call.{join_call}
use Rattle.join.specs.Known.{AllKnown, rows}

pub known-joins : AllKnown rows
unfolding join_call read_netlist opening word_lines words gate_line number decimal write_netlist
known-joins = refl
