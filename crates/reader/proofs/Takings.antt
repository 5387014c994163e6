-- What is taken from the tables of a netlist holds that netlist.
use Prim.Native.Nat.{ℕ}
use mathlib.Core.Path.{◌≡◌, ◌∙◌}
use mathlib.Core.List.{List}
use lib.ListN.{take}
use Rattle.netlist.specs.Netlist.{Netlist}
use Rattle.netlist.specs.Table.{Tables, Holds}
use Rattle.reader.specs.declared.header.Header.{Header}
use Rattle.reader.specs.declared.netlist_tables.NetlistTables.{NetlistTables}
use Rattle.reader.specs.Tables.{TakenFrom, HoldsNetlist}

pub taken-holds : {h : Header} {ins : List ℕ} {t : Tables} {n : NetlistTables} {N : Netlist} → TakenFrom h ins t n
    → Holds t h.gates h.wires h.input_bits h.output_bits N → take h.input_values ins ≡ N.inputs → HoldsNetlist n N
taken-holds m h w = record { gates = rw (m.tables, m.count, m.header) h; widths = m.widths ∙ w }
