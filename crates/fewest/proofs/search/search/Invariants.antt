-- `search::search`: where the search stands.
use Prim.Native.Nat.{◌+◌}
use lib.ListN.{length}
use Rattle.fewest.proofs.Standing.{Standing}
use Rattle.gates.specs.Gates.{tables_of}
use Rattle.fewest.proofs.search.search.Given as goal

abbrev pub invariant-loop-least : goal.invariant-loop-least
invariant-loop-least l = Standing (tables_of l.source.gates) l.source.gates.count l.source.codes.now l.source.wanted.now
    (length l.source.codes.now + l.source.gates.count) l.budget l.way l.best l.wire_codes l.least_before l.least l.stop
    l.left

abbrev pub decreases-loop-least : goal.decreases-loop-least
decreases-loop-least l = l.left
