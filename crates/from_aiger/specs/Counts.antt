-- Counts that are numbers of a file.
use Rattle.std.specs.Prelude.{ℕ, ◌^◌, ◌<◌}
use Rattle.netlist.specs.Number.{max_digits}

pub record LowCounts (i o a : ℕ) : Type 0 where
  pub inputs : i < 10 ^ max_digits
  pub outputs : o < 10 ^ max_digits
  pub ands : a < 10 ^ max_digits
