-- `certify_wires::hints::tried` meets its contract.
use Rattle.certify.proofs.Stores.{known_at}
use Rattle.certify.proofs.Hinting.{hint-law}
use native.Mathlib.Omega.{arith}
use Rattle.certify.proofs.hints.tried.Goals as goal

pub returns-clause-says : goal.returns-clause-says
returns-clause-says c = λ N codes T R L.
    hint-law c.args.leaf _ (c.is_same_atom.ensures.says c.if-not-is_same_atom.false) (omega arith) (omega arith)
    c.if-atom.false R
    (known_at _ T c.in_ok-s.ensures.says.0 c.in_ok-s.ensures.says.1) L
