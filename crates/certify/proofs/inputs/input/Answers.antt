-- `certify_pass::inputs::input` meets its contract.
use mathlib.Core.Path.{◌∙◌}
use Rattle.certify.proofs.InputWires.{input-open}
use Rattle.certify.proofs.inputs.input.Goals as goal

-- the leaf first: the mark of a public wire stays after it
pub returns-then-code-eq0-clause-says : goal.returns-then-code-eq0-clause-says
returns-then-code-eq0-clause-says c = record {
  holds = λ N codes M h e H.
      let laid = c.lay.ensures.says.holds N codes M h e H in
      record {
        known = laid.known;
        marked = c.mark.ensures.says N codes (input-open M _ h (e ∙ c.if-code-eq0.true)) laid.marked;
      };
}
