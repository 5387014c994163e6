-- One token after another.
use Rattle.std.specs.Ordering.{ord_max, nat_cmp}
use Rattle.std.proofs.lemmas.Bool.Decides.{nat_tests}
use Rattle.std.proofs.Common.{ℕ, max, arith, ◌≡◌, ◌∙◌, sym}
use denote.Enum.Bare.{differs_true, differs_false}
use Rattle.from_verilog.proofs.KindTests.{other_kind, this_kind, number_low}
use Rattle.from_verilog.specs.declared.tokens.Kind.TheVariants.{End}
use Rattle.from_verilog.specs.contracts.form.Phase.{the_type}
use Rattle.from_verilog.proofs.Walks.{walk-stuck, walk-on, walk_end, walk_unended}
use Rattle.from_verilog.proofs.form.walk.Goals as goal

max-same : (a b : ℕ) → ord_max nat_cmp a b ≡ max a b
max-same a b = grind (arith, nat_tests)

pub returns-in_err-s : goal.returns-in_err-s
returns-in_err-s c =
    rw c.from_residual.ensures (walk-stuck _ c.loop-token.invariant
    (other_kind c.loop-token.token.kind End c.loop-token-test.ensures) c.in_err-s.ensures.step)

pub loop-token-preserved : goal.loop-token-preserved
loop-token-preserved c =
    rw (c.max-deepest.ensures ∙ max-same c.loop-token.deepest c.in_ok-s.s.depth, c.operators-count.ensures)
    (walk-on _ c.loop-token.invariant (other_kind c.loop-token.token.kind End c.loop-token-test.ensures)
    (number_low c.loop-token.token.kind) _ _
    c.in_ok-s.ensures.step c.in_ok-s.ensures.grows c.next-token-in-loop-token.ensures)

pub returns-then-ne : goal.returns-then-ne
returns-then-ne c =
    walk_unended _ c.loop-token.invariant (this_kind c.loop-token.token.kind End c.loop-token-test.ensures)
    (differs_true the_type _ _ (sym c.if-ne.ensures))

pub returns : goal.returns
returns c =
    walk_end _ c.loop-token.invariant (this_kind c.loop-token.token.kind End c.loop-token-test.ensures)
    (differs_false the_type tt _ _ (sym c.if-ne.ensures))
