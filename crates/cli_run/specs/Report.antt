-- The outcome that *run* reports.
use Rattle.std.specs.Prelude.{ℕ, List, []}
use Rattle.netlist.specs.declared.Sizes.TheVariants.{Standard}
use Rattle.netlist.specs.Netlist.{masked_limits}
use Rattle.netlist.specs.Outcome.{Outcome}
use Rattle.program.specs.Programs.{readable, list_file}
use Rattle.netlist.specs.Services.{run_call}

-- the outcome of the program's call, from the bytes of its two files
abbrev pub outcome : List ℕ → List ℕ → Outcome (List ℕ)
outcome netlist inputs = readable netlist (run_call (masked_limits Standard) [] netlist (list_file inputs)
    (masked_limits Standard).wires)
