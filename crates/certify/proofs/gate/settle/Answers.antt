-- `certify_pass::gate::settle` meets its contract.
use Rattle.certify.proofs.Steps.{read_known}
use Rattle.certify.proofs.gate.settle.Goals as goal

pub returns-clause-says : goal.returns-clause-says
returns-clause-says c = λ N codes H.
    let K = read_known c.args.wire c.args.index c.requires.2 H.known c.in-Some.ensures.says.0 c.in-Some.ensures.says.1
    in
    record {
      known = c.put_leaf.ensures.says N codes H.known (c.in-Some-leaf_of.ensures.says N codes H.known K);
      marked = c.show_public.ensures.says N codes K H.marked;
    }
