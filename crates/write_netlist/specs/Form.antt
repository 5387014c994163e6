-- The written form of gates in tables under a header's numbers.
use Rattle.std.specs.Prelude.{ℕ, List, ◌++◌}
use Rattle.netlist.specs.Write.{gate_text}
use Rattle.netlist.specs.Table.{Tables, gates_of}
use Rattle.write_netlist.specs.Header.{header_text_in}
use Rattle.dialect.specs.declared.Dialect.{Dialect}
use Rattle.dialect.specs.declared.Dialect.TheVariants.{Fashion}

abbrev pub form_text_in : Dialect → ℕ → ℕ → List ℕ → List ℕ → Tables → List ℕ
form_text_in dialect count wires ins outs t = header_text_in dialect count wires ins outs
    ++ gate_text (gates_of t count)

-- in Fashion
abbrev pub form_text : ℕ → ℕ → List ℕ → List ℕ → Tables → List ℕ
form_text count wires ins outs t = form_text_in Fashion count wires ins outs t
