-- `answer`: the numbers of the header read.
use mathlib.Core.Path.{sym, ap, ◌∙◌}
use native.Mathlib.Omega.{arith}
use Rattle.netlist.specs.Outcome.{done}
use Rattle.netlist.proofs.Answering.{call-goes-on}
use Rattle.shape.specs.Promise.{shape_of}
use Rattle.shape.proofs.Shapes.{shape-same}
use Rattle.shape.proofs.answer.Goals as goal

pub returns : goal.returns
returns c =
    let r = rw c.masked_limits.ensures at c.in_ok-header.ensures in
    ap done (c.told.ensures ∙ shape-same r.1 (omega (arith, c.read.array_long)) (omega (arith, c.read.array_long2)))
    ∙ sym (call-goes-on _ _ (λ N. done (shape_of N)) r.0 r.1.read)
