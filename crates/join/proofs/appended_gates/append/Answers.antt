-- `append`: one gate more of the second's is put after the first's.
use Rattle.join.proofs.Appending.{appending-more}
use Rattle.join.proofs.appended_gates.append.Goals as goal

pub loop-i-preserved : goal.loop-i-preserved
loop-i-preserved c =
    let p = c.requires in
    rw c.put.ensures (appending-more p.wired.1 p.second_in_bounds.0 p.second_in_bounds.1 c.loop-i.invariant
    c.loop-i-test.true c.operands_entry.ensures
    c.result_entry.ensures)
