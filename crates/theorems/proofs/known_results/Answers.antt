use Rattle.theorems.proofs.KnownResults.{known-results}
use Rattle.theorems.proofs.known_results.Goals as goal

pub returns : goal.returns
returns c = known-results
