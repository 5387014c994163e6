-- `levels::joined`: a difference is not zero.
use Rattle.std.proofs.Common.{rules, refl, inr}
use Rattle.leak_search.proofs.Nibbles.{all_same}
use Rattle.causes.proofs.levels.joined.Goals as goal

pub returns-else-differ-eq0 : goal.returns-else-differ-eq0
returns-else-differ-eq0 c =
    inr (refl, λ same. c.if-differ-eq0.false (all_same (search rules) c.differ.ensures same))
