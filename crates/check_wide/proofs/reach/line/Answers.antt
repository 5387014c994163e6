-- `reach::line`: by the kind.
use Rattle.check_wide.proofs.Reaching.{told}
use Rattle.check_wide.proofs.reach.line.Goals as goal

pub returns-in-Eq : goal.returns-in-Eq
returns-in-Eq c =
    let g = c.args.gate in
    rw (← c.in-Eq.ensures g.left g.right g.result) (told (c.none.ensures _ _ _))
