-- `certify_pass::gate::mark` meets its contract.
use Rattle.certify.proofs.Steps.{marked}
use Rattle.certify.proofs.gate.mark.Goals as goal

pub returns-clause-says : goal.returns-clause-says
returns-clause-says c = rw c.byte.ensures (λ N codes S M. marked c.args.shown c.requires S M)
