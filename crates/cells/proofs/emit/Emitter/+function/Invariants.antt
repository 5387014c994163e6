-- The measures of `function` and `joined`: the inputs left, twice, and one more where the parts are chosen.
use Rattle.std.proofs.Common.{◌+◌, ◌*◌}
use Rattle.cells.proofs.emit.Emitter.+function.Given as goal

abbrev pub decreases-function : goal.decreases-function
decreases-function l = 2 * l.inputs

abbrev pub decreases-joined : goal.decreases-joined
decreases-joined l = 2 * l.input + 1
