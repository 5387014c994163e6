-- `causes::causes`: gate by gate.
use Rattle.std.proofs.Common.{arith, refl, ◌∙◌, ◌≡◌, ℕ, length, subst}
use Rattle.netlist.specs.Table.{gates_of}
use Rattle.gates.specs.Gates.{tables_of}
use Rattle.causes.specs.Marked.{Told}
use Rattle.causes.proofs.Beginnings.{told-none, told-turn}
use Rattle.causes.proofs.causes.causes.Goals as goal

pub loop-i-init : goal.loop-i-init
loop-i-init c = (refl, λ u tested. told-none u _ _ tested)

pub loop-i-preserved : goal.loop-i-preserved
loop-i-preserved c =
    let at = c.loop-i in
    let k = at.invariant.0 in (
      c.step.auto.marks ∙ k,
      λ u tested. told-turn u (tables_of c.args.gates) at.i _ at.marks c.step.new.marks c.at.result k c.at.ensures
          (at.invariant.1 u tested) c.step.ensures,
    )

pub returns : goal.returns
returns c = λ u tested.
    let at = c.loop-i in
    let e : at.i ≡ c.args.gates.count = omega (arith, at.auto.i-end, c.loop-i-test.false) in
    subst (λ (n : ℕ). Told u (gates_of (tables_of c.args.gates) n) (length c.args.marks.now) at.marks) e
    (at.invariant.1 u tested)
