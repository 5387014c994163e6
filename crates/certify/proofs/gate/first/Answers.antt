-- `certify_pass::gate::first` meets its contract.
use Rattle.certify.proofs.Steps.{joined-known, first-known}
use Rattle.certify.proofs.gate.first.Goals as goal

pub returns-in-Some-combine-clause-says : goal.returns-in-Some-combine-clause-says
returns-in-Some-combine-clause-says c = record {
  holds = λ N codes M H.
      let g = c.args.gate in
      let X = first-known g.left H.known c.in-Some.ensures.says.0 c.in-Some.ensures.says.1 in
      let Y = first-known g.right H.known c.in-Some-get.ensures.says.0 c.in-Some-get.ensures.says.1 in
      c.lead.ensures.says N codes (joined-known g.kind g.left g.right g.result c.in-Some-combine.ensures.says M X Y) H;
}
