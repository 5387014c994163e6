-- `gate_lines`: the lines of the first gates are written, and the entries of the others are left.
use Rattle.std.proofs.Common.{inl, inr}
use lib.ListN.{length-append}
use mathlib.Core.Path.{sym}
use Rattle.write_netlist.proofs.Forms.{zipped-more, zipped-as, zipped-all}
use Rattle.write_netlist.proofs.gate_lines.Goals as goal

pub loop-o-preserved : goal.loop-o-preserved
loop-o-preserved c =
    let s = c.in-Some.ensures.steps in
    zipped-as (sym (length-append c.loop-o.yielded _))
    (zipped-more c.requires.count_in_bounds.0 c.requires.count_in_bounds.1 (rw (s.0, s.1) at c.loop-o.invariant)
    c.entry-next.ensures)

pub returns : goal.returns
returns c =
    let all = zipped-all c.requires.count_in_bounds.0 c.requires.count_in_bounds.1 c.loop-o.invariant in
    elim c.in-None.ensures.steps [ inl x ↦ all (inl x.1.0) | inr x ↦ all (inr x.1.0) ]
