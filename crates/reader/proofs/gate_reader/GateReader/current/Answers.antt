-- `current`: what the step at the reader's place is, the reader says.
use Rattle.reader.proofs.Calling.{current-is}
use Rattle.reader.proofs.gate_reader.GateReader.current.Goals as goal

pub returns : goal.returns
returns c = current-is c.step_at.ensures
