-- `tally::settings_with`: setting by setting.
use Rattle.std.proofs.Common.{◌≡◌, ◌≤◌}
use Rattle.explain.specs.Table.{table_count}
use Rattle.explain.specs.Counts.{settings_with}
use Rattle.explain.proofs.tally.settings_with.Given as goal

abbrev pub invariant-loop-s : goal.invariant-loop-s
invariant-loop-s l = (l.total ≡ settings_with (table_count l.table) l.wanted l.s) × (l.total ≤ l.s)
