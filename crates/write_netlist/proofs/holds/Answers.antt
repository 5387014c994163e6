-- `holds`: the header is measured, and the longest lines fit after it.
use mathlib.Core.Path.{sym, ◌∙◌}
use native.Mathlib.Omega.{arith}
use Rattle.write_netlist.proofs.Forms.{form-ample}
use Rattle.write_netlist.proofs.holds.Goals as goal

pub returns-then-ample : goal.returns-then-ample
returns-then-ample c =
    let f = c.args.form in
    c.if-ample.true
    ∙ sym (form-ample f.dialect f.gates.count f.wires f.ins.now f.outs.now (omega arith) f.wired
    c.header_lines-header.ensures c.requires (sym c.ample.ensures ∙ c.if-ample.true))
