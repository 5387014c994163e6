-- `is_values`: the first number and the others.
use mathlib.Core.Path.{◌∙◌}
use Rattle.places.proofs.HeaderForms.{values_form, values-not, values-off}
use Rattle.places.proofs.header_lines.is_values.Goals as goal

pub returns-in_default : goal.returns-in_default
returns-in_default c = values-off _ c.in_default.ensures

pub returns-in-Some-rest_of_line : goal.returns-in-Some-rest_of_line
returns-in-Some-rest_of_line c = c.are_values.ensures ∙ values_form _ _ _ c.in-Some.ensures _ _ c.in-Some-rest_of_line.ensures

pub returns-in-None : goal.returns-in-None
returns-in-None c = values-not _ _ _ c.in-Some.ensures c.in-None.ensures
