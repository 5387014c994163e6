-- `certify_search::search::look` meets its contract.
use Rattle.certify.proofs.Rounds.{witness, looked}
use Rattle.certify.proofs.search.look.Goals as goal

pub returns : goal.returns
returns c = record {
  inside = λ p e. (c.scan.ensures.differs p e).inside;
  witness = λ N codes R. witness R c.first.new.base c.scan.result c.first.ensures c.scan.ensures;
  is = looked c.args.words.now c.first.new.base c.scan.result c.first.ensures c.scan.ensures;
}
