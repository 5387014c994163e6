-- `evaluate::run` meets its contract.
use Prim.Native.Nat.{◌+◌, ◌-◌}
use mathlib.Core.Path.{◌≡◌}
use native.Mathlib.Omega.{arith}
use Rattle.gates.specs.Gates.{tables_of}
use Rattle.evaluate.proofs.Steps.{ran-none, ran-all, ahead_step}
use Rattle.evaluate.proofs.run.Goals as goal

pub returns-then-gates-eq0 : goal.returns-then-gates-eq0
returns-then-gates-eq0 c = ran-all (ran-none (tables_of c.args.gates) c.args.gates.count c.args.words.now) (omega arith)

pub loop-i-preserved : goal.loop-i-preserved
loop-i-preserved c =
    let step = c.step in
    let i = c.loop-i.i in
    let here : i + 1 - 1 ≡ i = omega arith in
    let following : i - 1 + 1 ≡ i = omega arith in
    rw here record {
      ran = rw following at (ahead_step c.loop-i.invariant step.new.words step.auto.words step.ensures);
      inside = c.loop-i-test.true;
      parts = c.at-next-in-loop-i.ensures;
    }

pub returns : goal.returns
returns c =
    let step = c.step-2 in
    ran-all (ahead_step c.loop-i.invariant step.new.words step.auto.words step.ensures)
    (omega arith)
