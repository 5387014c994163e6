-- `follow` keeps its invariant: what a gate gives is right where its operands are.
use Rattle.std.proofs.Common.{ap, ◌∙◌}
use Rattle.std.proofs.lemmas.List.Elements.{All-same, All-push}
use Rattle.cells.specs.Verify.{Right}
use Rattle.cells.proofs.verify.follow.Goals as goal

pub loop-gate-preserved : goal.loop-gate-preserved
loop-gate-preserved c u j l holds all =
    let before = c.loop-gate.invariant u j l holds all in
    let operands = All-same (Right u j) _ _ c.deref.ensures.value before in
    All-same (Right u j) _ _ c.in_ok-push.ensures.items
    (All-push (Right u j) _ _ before (ap u c.result_wire.ensures ∙ holds c.loop-gate.gate-index _ c.loop-gate-test.true ∙ c.in-Some.ensures u j l operands))
