-- The outcome that *rewrite* reports.
use Rattle.std.specs.Prelude.{ℕ, List, []}
use Rattle.netlist.specs.declared.Sizes.TheVariants.{Standard}
use Rattle.netlist.specs.Netlist.{masked_limits}
use Rattle.netlist.specs.Outcome.{Outcome}
use Rattle.program.specs.Programs.{readable}
use Rattle.netlist.specs.Services.{rewrite_call}

-- the outcome of the program's call, from the bytes of its file
abbrev pub outcome : List ℕ → Outcome (List ℕ)
outcome netlist = readable netlist (rewrite_call (masked_limits Standard) [] netlist (masked_limits Standard).text)
