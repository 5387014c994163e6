-- `first_refused`: one line after another.
use mathlib.Core.Path.{◌∙◌}
use Rattle.places.proofs.HeaderForms.{form_at, refused-0, refused-1, refused-2}
use Rattle.places.proofs.header_lines.first_refused.Goals as goal

pub returns-then-not-is_pair : goal.returns-then-not-is_pair
returns-then-not-is_pair c =
    let l = c.line_start.ensures in
    refused-0 _ (form_at _ 0 0 c.line_start.result _ l.0 l.1 c.is_pair.ensures ∙ c.if-not-is_pair.true)

pub returns-then-not-is_values : goal.returns-then-not-is_values
returns-then-not-is_values c =
    let l = c.line_start.ensures in
    let m = c.line_start-2.ensures in
    refused-1 _ (form_at _ 0 0 c.line_start.result _ l.0 l.1 c.is_pair.ensures ∙ c.if-not-is_pair.false)
    (form_at _ 1 1 c.line_start-2.result _ m.0 m.1 c.is_values.ensures ∙ c.if-not-is_values.true)

pub returns : goal.returns
returns c =
    let l = c.line_start.ensures in
    let m = c.line_start-2.ensures in
    refused-2 _ c.requires (form_at _ 0 0 c.line_start.result _ l.0 l.1 c.is_pair.ensures ∙ c.if-not-is_pair.false)
    (form_at _ 1 1 c.line_start-2.result _ m.0 m.1 c.is_values.ensures ∙ c.if-not-is_values.false)
