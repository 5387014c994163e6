-- `certify_pass::inputs::mask_record` meets its contract.
use mathlib.Core.Path.{subst}
use Rattle.certify.proofs.InputWires.{MaskIs, first-known, second-known, mask-is}
use mathlib.Core.Path.{ap, ◌∙◌}
use Prim.Native.Nat.{ℕ}
use Rattle.certify_records.specs.Record.{over, no_atom}
use Rattle.certify.proofs.inputs.mask_record.Goals as goal

pub returns-clause-says : goal.returns-clause-says
returns-clause-says c = rw c.over.ensures (λ N codes M. (
  λ e. first-known M c.mask.result (subst (MaskIs c.mask.result) e c.mask.ensures),
  λ e. second-known M c.mask.result (subst (MaskIs c.mask.result) e c.mask.ensures),
))

pub returns-clause-is : goal.returns-clause-is
returns-clause-is c = c.over.ensures ∙ ap (λ (t : ℕ). over t no_atom)
    (mask-is c.mask.result c.args.code c.mask.type_inv c.mask.ensures)
