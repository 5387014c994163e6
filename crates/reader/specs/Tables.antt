-- A netlist in the tables it was read into.
use Rattle.std.specs.Prelude.{ℕ, List, ◌≡◌, ◌≤◌, length, take}
use Rattle.netlist.specs.Lists.{sum}
use Rattle.netlist.specs.Netlist.{Netlist}
use Rattle.netlist.specs.Table.{Tables, Wired}
use Rattle.gates.specs.Gates.{tables_of, HoldsGates}
use Rattle.reader.specs.declared.header.Header.{Header}
use Rattle.reader.specs.declared.netlist_tables.NetlistTables.{NetlistTables}

-- the tables have a header's gates, over its wires, and its input bits are those of the widths at the front of `ins`
pub record ReadInto (h : Header) (ins : List ℕ) (t : Tables) : Type 0 where
  pub values : h.input_values ≤ length ins
  pub bits : h.input_bits ≡ sum (take h.input_values ins)
  pub wired : Wired t h.wires h.gates

-- the header, those widths and those gates
pub record TakenFrom (h : Header) (ins : List ℕ) (t : Tables) (n : NetlistTables) : Type 0 where
  pub header : n.header ≡ h
  pub widths : n.widths.now ≡ take h.input_values ins
  pub tables : tables_of n.gates ≡ t
  pub count : n.gates.count ≡ h.gates

-- they are those of a netlist
pub record HoldsNetlist (n : NetlistTables) (N : Netlist) : Type 0 where
  pub gates : HoldsGates n.gates n.header.wires n.header.input_bits n.header.output_bits N
  pub widths : n.widths.now ≡ N.inputs
