-- `certify_pass::gate::lead` meets its contract.
use Rattle.certify.proofs.Steps.{put-leaf}
use mathlib.Core.Path.{ap, ◌∙◌}
use Rattle.certify.specs.Kept.{kept}
use Rattle.certify.specs.Step.{state, shown_public, led_on}
use Rattle.certify.proofs.gate.lead.Goals as goal

pub returns-in_default-clause-says : goal.returns-in_default-clause-says
returns-in_default-clause-says c = λ N codes K H. record {
  known = put-leaf c.put.ensures.says H.known K;
  marked = c.show_clean.ensures.says N codes K H.marked;
}

pub returns-clause-says : goal.returns-clause-says
returns-clause-says c = λ N codes K H. record {
  known = c.keep.ensures.says N codes (put-leaf c.put-2.ensures.says H.known (c.in-Some.ensures.says N codes H.known K))
      K;
  marked = c.show_public.ensures.says N codes K (c.show_clean.ensures.says N codes K H.marked);
}

pub returns-clause-is : goal.returns-clause-is
returns-clause-is c =
    let a = c.args in
    let s = state a.records.now a.marks.now a.hints.now in
    (λ i. state (c.keep.ensures.is i) (c.show_public.ensures.is i) c.leaf_of.new.hints)
    ∙ (λ i. state (kept a.wire (c.put-2.ensures.is i) a.known) (shown_public (c.show_clean.ensures.is i) a.wire a.known)
    c.leaf_of.new.hints)
    ∙ ap (led_on s a.wire a.known) c.in-Some.ensures.is
