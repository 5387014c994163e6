-- The first i lines are inputs.
use native.Mathlib.Omega.{arith}
use borrow.Author.Rules.{rules}
use Rattle.from_aiger.proofs.InputLines.{entering-start, entering-more, entering-no}
use Rattle.from_aiger.proofs.inputs.inputs.Goals as goal

pub loop-i-init : goal.loop-i-init
loop-i-init c = record { entered = λ most z. entering-start _ most _ c.requires; following = search rules }

pub returns-in_err-left-clause-inputs : goal.returns-in_err-left-clause-inputs
returns-in_err-left-clause-inputs c =
    rw c.from_residual.ensures (λ most z.
    let E = c.loop-i.invariant.entered most z in entering-no E _ c.loop-i-test.true
    (c.in_err-left.ensures.line most (omega (arith, z)) _ _ E.places))

pub loop-i-preserved : goal.loop-i-preserved
loop-i-preserved c =
    record {
      entered = λ most z.
          let E = c.loop-i.invariant.entered most z in
          entering-more E c.input.new.table _ (omega (arith, z))
          (c.in_ok-left.ensures.line most (omega (arith, z)) _ _ E.places);
      following = search rules;
    }

pub returns-clause-inputs : goal.returns-clause-inputs
returns-clause-inputs c = λ most z. let E = c.loop-i.invariant.entered most z in search rules
