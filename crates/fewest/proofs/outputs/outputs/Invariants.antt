-- `outputs::outputs`: the changes of the outputs so far, and of those that are left.
use Prim.Native.Nat.{◌+◌}
use mathlib.Core.Path.{◌≡◌}
use Rattle.fewest.specs.Codes.{end_changes}
use Rattle.fewest.proofs.outputs.outputs.Given as goal

abbrev pub invariant-loop-e : goal.invariant-loop-e
invariant-loop-e l = l.sum + end_changes l.e-iterator.a.rest.now l.e-iterator.b.rest.now
    ≡ end_changes l.out_codes l.wanted
