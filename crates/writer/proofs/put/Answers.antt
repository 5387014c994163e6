-- `put`: a byte past the end only moves the place.
use native.Mathlib.Omega.{arith}
use Rattle.writer.proofs.put.Goals as goal

pub returns : goal.returns
returns c = record { room = omega arith; list = c.put.ensures; next = c.moved.ensures }
