-- `tally::lightest`: setting by setting.
use Rattle.std.proofs.Common.{◌≡◌}
use Rattle.explain.specs.Table.{table_count}
use Rattle.explain.specs.Counts.{lightest}
use Rattle.explain.proofs.tally.lightest.Given as goal

abbrev pub invariant-loop-s : goal.invariant-loop-s
invariant-loop-s l = l.best ≡ lightest (table_count l.base) (table_count l.own) l.bits l.s
