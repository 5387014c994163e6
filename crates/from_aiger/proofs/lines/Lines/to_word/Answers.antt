-- The first place whose byte is part of a word, or the text's end.
use Rattle.std.proofs.Common.{rules}
use Rattle.std.specs.Prelude as P
use mathlib.Core.Path.{sym, ◌∙◌}
use native.Mathlib.Omega.{arith}
use Rattle.from_aiger.proofs.Strays.{passed}
use Rattle.from_aiger.proofs.lines.Lines.to_word.Goals as goal

pub returns-then-not-is_between : goal.returns-then-not-is_between
returns-then-not-is_between c = passed _ _ c.args.self.clean (P.Some c.loop-i.i)
    (search rules, c.loop-i-test.true, sym c.is_between.ensures ∙ c.if-not-is_between.true, c.loop-i.invariant)

pub returns : goal.returns
returns c = passed _ _ c.args.self.clean P.None
    (λ k a b. c.loop-i.invariant k a (omega (arith, b, c.loop-i-test.false, c.loop-i.auto.i-end)))
