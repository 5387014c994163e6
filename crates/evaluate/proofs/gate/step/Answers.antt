-- `evaluate::gate::step` meets its contract.
use Rattle.evaluate.proofs.Steps.{step-lanes}
use Rattle.evaluate.proofs.gate.step.Goals as goal

pub returns : goal.returns
returns c j l =
    let s = c.args in
    let p = s.gate in
    step-lanes j s.words.now p.kind p.left p.right p.result c.made.result (c.made.ensures j l)
