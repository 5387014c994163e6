-- `mask_pass::mask_gates` meets its contract.
use Rattle.writer.proofs.GateLines.{gates-then}
use Rattle.mask.proofs.pass.mask_gates.Goals as goal

pub returns : goal.returns
returns c =
    gates-then
    (gates-then c.xor-second.ensures
    c.and-third.ensures)
    c.xor.ensures
