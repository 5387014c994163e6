use Rattle.theorems.proofs.Secrets.{all-secret}
use Rattle.theorems.proofs.all_secret.Goals as goal

pub returns : goal.returns
returns c = all-secret
