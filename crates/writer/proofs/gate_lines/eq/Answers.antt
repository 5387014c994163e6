-- `eq`: the counts, the constant, the wire and the name.
use Rattle.writer.proofs.Writing.{wrote_then, wrote_as}
use Rattle.writer.proofs.PartLines.{line_eq}
use Rattle.writer.proofs.GateLines.{gates-one}
use Rattle.writer.proofs.gate_lines.eq.Goals as goal

pub returns : goal.returns
returns c =
    gates-one _
    (wrote_as (line_eq _ _)
    (wrote_then
    c.bytes-constant.ensures
    (wrote_then c.spaced-result.ensures
    (wrote_then c.number-space.ensures c.bytes.ensures))))
