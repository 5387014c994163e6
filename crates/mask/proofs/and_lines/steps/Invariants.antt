-- `mask_and_lines::steps` meets its contract.
use mathlib.Core.List.{[], ◌∷◌}
use Rattle.mask.proofs.Rows.{Walked}
use Rattle.mask.proofs.and_lines.steps.Given as goal

abbrev pub invariant-loop-i : goal.invariant-loop-i
invariant-loop-i l = Walked l.step-items l.initial.out l.at (l.first ∷ l.second ∷ l.first_mask ∷ l.second_mask ∷
    l.either_mask ∷ []) l.result_wire l.out l.places l.next
    l.i
