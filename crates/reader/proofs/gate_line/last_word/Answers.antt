-- A gate, and the line's end.
use Rattle.reader.proofs.GateWords.{last-unnamed, last_more, last-gate}
use Rattle.reader.proofs.gate_line.last_word.Goals as goal

pub returns-in_err-g : goal.returns-in_err-g
returns-in_err-g c = rw c.from_residual.ensures (last-unnamed _ _ c.in_err-g.was)

pub returns-in_err-next : goal.returns-in_err-next
returns-in_err-next c = rw c.from_residual-in_err-next.ensures (last_more _ _ c.in_err-next.ensures)

pub returns : goal.returns
returns c = last-gate _ _ _ _ c.in_ok-g.was c.requires c.in_ok-next.ensures
