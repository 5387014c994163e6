-- `runs_hold`: what a run leaves satisfies each gate.
use Rattle.cells.proofs.Runs.{runs}
use Rattle.cells.proofs.build.runs_hold.Goals as goal

pub returns : goal.returns
returns c N ins F = runs N ins F
