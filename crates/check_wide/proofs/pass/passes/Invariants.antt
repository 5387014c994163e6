-- `passes`: from the last item to the first.
use lib.ListN.{length}
use Rattle.check_wide.specs.WireSets.{sets_of}
use Rattle.check_wide.proofs.Passes.{Passing}
use Rattle.gates.specs.Gates.{tables_of}
use Rattle.check_wide.proofs.pass.passes.Given as goal

abbrev pub invariant-loop-x : goal.invariant-loop-x
invariant-loop-x l =
    Passing (tables_of l.job.gates) l.job.gates.count (length l.initial.words)
    (sets_of l.job.items.sets) l.job.codes.list.now l.job.items.pairs.now l.start l.total l.initial.paints
    l.initial.marks l.initial.base l.initial.bases l.initial.worst.wire
    l.initial.worst.pair l.paints l.marks l.words l.base l.bases l.worst.wire l.worst.pair l.x
