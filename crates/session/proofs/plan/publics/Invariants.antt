-- `publics`: the public bits before e are counted.
use mathlib.Core.Path.{◌≡◌}
use lib.ListN.{take}
use Rattle.std.specs.List.{count_by}
use Rattle.masking.specs.Mask.{is_public}
use Rattle.session.proofs.plan.publics.Given as goal

abbrev pub invariant-loop-e : goal.invariant-loop-e
invariant-loop-e l = l.count ≡ count_by is_public (take l.e-index l.fn.codes)
