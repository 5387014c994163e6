-- `truth::lay`: block by block.
use Rattle.std.proofs.Common.{length}
use Rattle.evaluate.specs.Bare.{bare}
use Rattle.gates.specs.Gates.{tables_of}
use Rattle.explain.proofs.Laying.{Laid}
use Rattle.explain.proofs.truth.lay.Given as goal

abbrev pub invariant-loop-block : goal.invariant-loop-block
invariant-loop-block l = Laid (bare (tables_of l.gates) l.gates.count (length l.initial.words)) l.secrets l.paints
    l.wire (length l.initial.words) l.blocks l.initial.table l.words l.table l.block
