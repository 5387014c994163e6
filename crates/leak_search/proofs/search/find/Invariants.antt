-- `check_leak::search::find` meets its contract.
use lib.ListN.{length}
use Rattle.leak_search.proofs.Differences.{Finding}
use Rattle.gates.specs.Gates.{tables_of}
use Rattle.leak_search.proofs.search.find.Given as goal

abbrev pub invariant-loop-block : goal.invariant-loop-block
invariant-loop-block l = Finding (tables_of l.b.gates) l.b.gates.count (length l.initial.words) l.b.paints.now
    l.b.publics l.blocks l.words l.base l.best l.block
