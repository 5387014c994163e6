-- `certify_pass::gate::put_leaf` meets its contract.
use Rattle.certify.proofs.Steps.{put-leaf, put-last}
use Rattle.certify.proofs.gate.put_leaf.Goals as goal

pub returns-in-Some-clause-says : goal.returns-in-Some-clause-says
returns-in-Some-clause-says c = λ N codes R K. put-last c.put.ensures.says R K

pub returns-in-None-clause-says : goal.returns-in-None-clause-says
returns-in-None-clause-says c = λ N codes R K. put-leaf c.put-in-None.ensures.says R K
