-- The text of a netlist in its tables.
use Rattle.std.specs.Prelude.{List, ℕ}
use Rattle.gates.specs.Gates.{tables_of}
use Rattle.write_netlist.specs.declared.form.Form.{Form}
use Rattle.write_netlist.specs.Form.{form_text_in}

abbrev pub text_of : Form → List ℕ
text_of f = form_text_in f.dialect f.gates.count f.wires f.ins.now f.outs.now (tables_of f.gates)
