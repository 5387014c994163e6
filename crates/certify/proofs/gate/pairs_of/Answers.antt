-- `certify_pass::gate::pairs_of` meets its contract.
use Rattle.certify.proofs.Steps.{read_known}
use Rattle.certify.proofs.gate.pairs_of.Goals as goal

pub returns-then-gate-clause-says : goal.returns-then-gate-clause-says
returns-then-gate-clause-says c = record {
  holds = λ N codes M H.
      let X = read_known c.args.gate.left c.args.index c.requires.1 H.known c.in-Some.ensures.says.0
      c.in-Some.ensures.says.1 in
      c.row.ensures.says.holds N codes M X H;
}

pub returns-then-from-index-clause-says : goal.returns-then-from-index-clause-says
returns-then-from-index-clause-says c = record {
  holds = λ N codes M H.
      let X = read_known c.args.gate.left c.args.index c.requires.1 H.known c.in-Some.ensures.says.0
      c.in-Some.ensures.says.1 in
      c.pair.ensures.says.holds N codes M X H;
}
