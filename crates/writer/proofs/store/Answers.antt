-- `store`: the bytes are copied over as many of the buffer's.
use native.Mathlib.Omega.{arith}
use Rattle.writer.proofs.Writing.{wrote-copied}
use Rattle.writer.proofs.store.Goals as goal

pub returns : goal.returns
returns g c = wrote-copied (omega arith) c.requires (omega arith) c.copy_from_slice.ensures.after
