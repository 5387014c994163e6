-- `outputs::outputs`: the changes of the outputs so far, and of those that are left.
use Rattle.std.proofs.Common.{inl, inr}
use native.Mathlib.Omega.{arith}
use Rattle.fewest.proofs.Ending.{ends-most, ends-few}
use Rattle.fewest.proofs.outputs.outputs.Goals as goal

pub overflow_add-sum : goal.overflow_add-sum
overflow_add-sum c = let h = rw (c.in-Some.ensures.steps.0, c.in-Some.ensures.steps.1) at c.loop-e.invariant
    in omega (arith, h, c.output-sum.ensures, ends-most c.args.out_codes.now c.args.wanted.now)

pub loop-e-preserved : goal.loop-e-preserved
loop-e-preserved c = let h = rw (c.in-Some.ensures.steps.0, c.in-Some.ensures.steps.1) at c.loop-e.invariant
    in omega (arith, h, c.output-sum.ensures)

pub returns : goal.returns
returns c =
    let i = c.loop-e.invariant in
    elim c.in-None.ensures.steps [
      | inl x ↦ omega (arith, i, x.1.0, ends-few c.loop-e.e-iterator.a.rest.now c.loop-e.e-iterator.b.rest.now)
      | inr x ↦ omega (arith, i, x.1.0, ends-most c.loop-e.e-iterator.a.rest.now c.loop-e.e-iterator.b.rest.now)
    ]
