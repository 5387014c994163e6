-- `gates::entries::copy` meets its contract.
use mathlib.Core.Path.{◌∙◌}
use native.Mathlib.Omega.{arith}
use Rattle.std.proofs.Common.{rules}
use Rattle.gates.proofs.Copied.{copied}
use Rattle.gates.proofs.entries.copy.Goals as goal

pub returns : goal.returns
returns g c = copied _ _ (c.loop-i.auto.to ∙ c.requires.long)
    (λ d i l. c.loop-i.invariant d i (omega (arith, l, c.loop-i.auto.to, c.requires.long, c.loop-i.auto.i-end, c.loop-i-test.false)))
