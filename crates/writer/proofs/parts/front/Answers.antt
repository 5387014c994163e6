-- `front`: the head, the operands and the result, each over what the one before spilt.
use Rattle.writer.proofs.Spilling.{spilt-none, spilt-operand, spilt-result, spilt-as, spilt-most}
use Rattle.writer.specs.Parts.{head_of}
use Rattle.writer.proofs.PartLines.{spaced-more, whole-front}
use native.Mathlib.Omega.{arith}
use Rattle.writer.proofs.parts.front.Goals as goal

pub loop-a-init : goal.loop-a-init
loop-a-init g c = spilt-most _ 6 (omega arith) (omega arith)
    (spilt-none (rw c.head.ensures at c.store-next.ensures) (omega arith))

pub wire-next-requires : goal.wire-next-requires
wire-next-requires g c =
    let p = c.requires.words in (
      p.0.operands c.loop-a.a-index (omega arith),
      omega (
        arith,
        p.1,
        c.requires.few,
        c.loop-a.invariant.few,
        c.loop-a.invariant.next,
        c.loop-a.auto.out,
        c.store-next.auto.out,
      ),
    )

pub loop-a-preserved : goal.loop-a-preserved
loop-a-preserved g c =
    spilt-most _ 6 (omega arith) (omega arith)
    (spilt-as (spaced-more (head_of g.row.N) c.args.operands c.loop-a.a-index (omega arith))
    (spilt-operand _ (c.requires.words.0.operands c.loop-a.a-index (omega arith)).six c.loop-a.invariant
    c.wire-next.ensures (omega arith)))

pub wire-requires : goal.wire-requires
wire-requires g c =
    let p = c.requires.words in (
      p.0.result,
      omega (
        arith,
        p.1,
        c.requires.few,
        c.loop-a.invariant.few,
        c.loop-a.invariant.next,
        c.loop-a.auto.out,
        c.store-next.auto.out,
      ),
    )

pub returns : goal.returns
returns g c =
    let p = c.requires.words.0 in
    spilt-most _ 4 (omega arith) (omega arith)
    (spilt-as (whole-front c.args.operands c.args.result_wire (omega arith) (omega arith))
    (spilt-result _ p.least p.result.six c.loop-a.invariant c.wire.ensures (omega arith)))
