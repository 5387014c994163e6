-- One token after another.
use Rattle.std.proofs.Common.{arith, refl, sym, ◌∙◌}
use Rattle.from_verilog.proofs.Declaring.{load-start, load-on, load-bad, load-end}
use Rattle.from_verilog.proofs.declarations.declarations.Goals as goal

pub loop-token-init : goal.loop-token-init
loop-token-init c =
    let d = c.default-so_far.ensures in
    rw (d.0, d.1) (load-start c.requires.0 c.next-token.ensures)

pub returns-in_err-so_far : goal.returns-in_err-so_far
returns-in_err-so_far c =
    let D = c.loop-token.invariant in
    rw c.from_residual.ensures (load-bad D (rw (D.headed, D.worded) at c.in_err-so_far.ensures) refl)

pub one-requires : goal.one-requires
one-requires c =
    let D = c.loop-token.invariant in
    let p = c.requires in (
      rw D.headed D.names,
      omega (arith, D.worded, D.linked, p.1),
      omega (arith, D.worded, D.stated, p.2),
      D.token.onward,
      D.token.within,
      sym c.declares.ensures ∙ c.loop-token-test.true,
      omega (arith, D.few, p.3),
    )

pub loop-token-preserved : goal.loop-token-preserved
loop-token-preserved c =
    let D = c.loop-token.invariant in
    load-on D (rw (D.headed, D.worded) at c.in_ok-so_far.ensures) (sym c.declares.ensures ∙ c.loop-token-test.true) refl
    c.one.auto.heads c.one.auto.words c.one.auto.links c.one.auto.states (omega arith) c.requires.1 c.requires.2
    c.next-token-in-loop-token.ensures

pub returns : goal.returns
returns c = load-end c.loop-token.invariant (sym c.declares.ensures ∙ c.loop-token-test.false)
