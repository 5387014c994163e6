-- `advance`: the same text, and the place after what the reader said.
use mathlib.Core.Path.{refl}
use Rattle.reader.proofs.Calling.{advance-is}
use Rattle.reader.proofs.gate_reader.GateReader.advance.Goals as goal

pub returns : goal.returns
returns c = (refl, advance-is c.args.self.text.now c.args.step c.place_after-at.ensures)
