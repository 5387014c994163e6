-- `distances::distances`: gate by gate, the last first.
use Rattle.std.proofs.Common.{arith, ap, ◌∙◌, ◌-◌}
use Rattle.gates.specs.declared.Parts.{Parts}
use Rattle.gates.specs.Parts.{gate_by}
use Rattle.gates.specs.Gates.{tables_of}
use Rattle.cones.specs.Cone.{spread}
use Rattle.cones.proofs.Spreading.{spread-turn}
use Rattle.cones.proofs.distances.distances.Goals as goal

pub loop-i-preserved : goal.loop-i-preserved
loop-i-preserved c =
    let a = c.args in
    let at = c.loop-i in
    let test = c.loop-i-test.true in
    let told = at.invariant in
    let p = c.step.ensures ∙ ap (λ (q : Parts). spread a.depth (gate_by q) at.out) c.at.ensures in (
      omega (arith, told.0),
      c.step.auto.out ∙ told.1,
      spread-turn a.depth (tables_of a.gates) (at.i - 1) at.i at.out c.step.new.out (omega (arith, test)) p ∙ told.2,
    )
