-- `transform::add_variable`: entry by entry, the last first.
use Rattle.explain.proofs.Adding.{Adding}
use Rattle.explain.proofs.transform.add_variable.Given as goal

abbrev pub invariant-loop-number : goal.invariant-loop-number
invariant-loop-number l = Adding l.index l.initial.table l.table l.number
