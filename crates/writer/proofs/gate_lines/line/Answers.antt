-- `line`: after the end, near it, for wires without words, and before it.
use native.Mathlib.Omega.{arith}
use Rattle.writer.proofs.Spilling.{spilt-all}
use Rattle.writer.proofs.PartLines.{line-beyond}
use Rattle.writer.proofs.gate_lines.line.Goals as goal

pub returns-then-out-at : goal.returns-then-out-at
returns-then-out-at g c = line-beyond _ _ _ (omega arith) (omega arith) (omega arith) c.beyond.ensures

pub returns : goal.returns
returns g c = spilt-all c.front-end.ensures (rw c.to_le_bytes-name.ensures at c.store.ensures) (omega arith)
