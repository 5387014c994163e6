-- The first place whose byte is not white, or the text's end.
use Rattle.std.proofs.Common.{rules}
use Rattle.std.specs.Prelude as P
use mathlib.Core.Path.{sym, ◌∙◌}
use native.Mathlib.Omega.{arith}
use Rattle.from_verilog.proofs.Nexts.{skipped}
use Rattle.from_verilog.proofs.tokens.skip_white.Goals as goal

pub returns-then-not-is_white : goal.returns-then-not-is_white
returns-then-not-is_white c = skipped _ _ c.requires (P.Some c.loop-i.i)
    (search rules, c.loop-i-test.true, sym c.is_white.ensures ∙ c.if-not-is_white.true, c.loop-i.invariant)

pub returns : goal.returns
returns c = skipped _ _ c.requires P.None
    (λ k a b. c.loop-i.invariant k a (omega (arith, b, c.loop-i-test.false, c.loop-i.auto.i-end)))
