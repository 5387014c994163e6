-- `certify_pass::inputs::give` meets its contract.
use Rattle.certify.proofs.Steps.{put-leaf}
use Rattle.certify.proofs.inputs.give.Goals as goal

pub returns-clause-says : goal.returns-clause-says
returns-clause-says c = λ N codes K H. record {
  known = put-leaf c.put.ensures.says H.known K;
  marked = c.show_clean.ensures.says N codes K H.marked;
}
