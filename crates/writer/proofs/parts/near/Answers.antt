-- `near`: the parts of a line in order.
use Rattle.writer.proofs.Writing.{wrote_then, wrote_as}
use Rattle.writer.specs.Parts.{head_of}
use Rattle.writer.proofs.PartLines.{spaced-more, whole-front}
use native.Mathlib.Omega.{arith}
use Rattle.writer.proofs.parts.near.Goals as goal

pub loop-a-preserved : goal.loop-a-preserved
loop-a-preserved g c = wrote_as (spaced-more (head_of g.row.N) c.args.operands c.loop-a.a-index (omega arith))
    (wrote_then c.loop-a.invariant c.spaced-next.ensures)

pub returns : goal.returns
returns g c =
    wrote_then
    (wrote_as (whole-front c.args.operands c.args.wire (omega arith) (omega arith))
    (wrote_then c.loop-a.invariant c.spaced-last.ensures))
    c.bytes.ensures
