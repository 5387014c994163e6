-- `wire`: the word's bytes, and the place after its text.
use Rattle.writer.proofs.Spilling.{stored}
use Rattle.writer.proofs.wire.wire.Goals as goal

pub returns : goal.returns
returns c =
    let p = c.requires in
    stored _ p.0.six p.1 c.look-w.ensures (rw c.to_le_bytes.ensures at c.store.ensures)
