-- `first_refused`: one allowed byte more.
use mathlib.Core.Path.{sym, ◌∙◌}
use Rattle.places.proofs.Scanning.{allowed-on, allowed-not}
use Rattle.places.proofs.bytes.first_refused.Goals as goal

pub loop-i-preserved : goal.loop-i-preserved
loop-i-preserved c = allowed-on _ _ c.loop-i-test.true (sym c.is_allowed_at.ensures ∙ c.if-not-is_allowed_at.false)
    c.loop-i.invariant

pub returns-then-not-is_allowed_at : goal.returns-then-not-is_allowed_at
returns-then-not-is_allowed_at c =
    allowed-not _ _ c.loop-i-test.true (sym c.is_allowed_at.ensures ∙ c.if-not-is_allowed_at.true)
    c.loop-i.invariant
