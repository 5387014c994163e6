-- `write`: one record more stands in the list.
use Rattle.std.proofs.Common.{arith, map}
use lib.ListN.{length-map}
use Rattle.gates.specs.Records.{record_of}
use Rattle.session.specs.Plan.{steps_in}
use Rattle.session.proofs.Writes.{wrote-more}
use Rattle.session.proofs.steps.write.Goals as goal

pub loop-k-preserved : goal.loop-k-preserved
loop-k-preserved c =
    let gs = steps_in c.args.mask_pair c.args.steps in
    wrote-more c.args.list.now (map record_of gs) c.args.at c.loop-k.invariant (omega (arith, length-map gs record_of))
    (λ _. c.gate.ensures)
