-- `certify_wires::keep::step` meets its contract.
use Rattle.certify.proofs.Stores.{recorded-put, known_at}
use Rattle.certify.proofs.keeping.step.Goals as goal

pub returns-in_default-clause-says : goal.returns-in_default-clause-says
returns-in_default-clause-says c = λ N codes R K. (recorded-put c.put.ensures.says R K, tt)

pub returns-then-atoms-clause-says : goal.returns-then-atoms-clause-says
returns-then-atoms-clause-says c = λ N codes R K. (
  recorded-put c.put-then-atoms.ensures.says R K,
  known_at _ R c.in-Some.ensures.says.0 c.in-Some.ensures.says.1,
)
