-- `check_counts::load::mask` meets its contract.
use borrow.Author.Tests.{ne_eqb}
use native.Mathlib.Omega.{arith}
use Rattle.evaluate.proofs.Lanes.{lane-zero}
use Rattle.leak_search.proofs.Numbers.{first-mask, second-mask, third-mask}
use Rattle.leak_search.proofs.load.mask.Goals as goal

pub returns-in-1 : goal.returns-in-1
returns-in-1 c b j l = rw c.in-1.is (first-mask b j l)

pub returns-in-2 : goal.returns-in-2
returns-in-2 c b j l = rw c.in-2.is (second-mask b j l)

pub returns-in-3 : goal.returns-in-3
returns-in-3 c b j l = rw c.in-3.is (third-mask b j l)

pub returns-in_default : goal.returns-in_default
returns-in_default c b j l =
    simp (ne_eqb c.args.code 1 (omega arith), ne_eqb c.args.code 2 (omega arith), ne_eqb c.args.code 3 (omega arith))
    (lane-zero j)
