-- `truth::store`: lane by lane.
use Rattle.explain.proofs.Laying.{Storing}
use Rattle.explain.proofs.truth.store.Given as goal

abbrev pub invariant-loop-j : goal.invariant-loop-j
invariant-loop-j l = Storing l.word l.from l.initial.table l.table l.j
