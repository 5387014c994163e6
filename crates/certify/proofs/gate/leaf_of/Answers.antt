-- `certify_pass::gate::leaf_of` meets its contract.
use Rattle.certify.proofs.Steps.{leaf-known}
use Rattle.certify.proofs.gate.leaf_of.Goals as goal

pub returns-clause-says : goal.returns-clause-says
returns-clause-says c = λ N codes T K. c.hinted.ensures.says N codes T K
    (leaf-known c.args.wire c.in_ok-s.ensures.says K)
