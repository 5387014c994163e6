-- `causes::step`: a gate's result.
use Rattle.std.proofs.Common.{sym, ◌∙◌}
use Rattle.gates.specs.Parts.{gate_by}
use Rattle.causes.proofs.Beginnings.{result-of, told-cause, told-fails, told-passes}
use Rattle.causes.proofs.causes.step.Goals.{else-marks-gate-ne0-via-then-marks-gate-ne0+else-unmarked, else-marks-gate-ne0-via-else-marks-gate-ne0}
use Rattle.causes.proofs.causes.step.Goals as goal

pub returns-then-unmarked : goal.returns-then-unmarked
returns-then-unmarked c = λ u gs told.
    told-cause u gs c.args.marks.now told (gate_by c.args.gate) c.args.gate.result (result-of c.args.gate.kind c.args.gate.left c.args.gate.right c.args.gate.result) c.requires.result
    c.if-marks-gate-ne0.true (sym (c.unmarked.ensures u gs told) ∙ c.if-unmarked.true)

pub returns-else-marks-gate-ne0 : goal.returns-else-marks-gate-ne0
returns-else-marks-gate-ne0 c = λ u gs told.
    elim c.else-marks-gate-ne0.branch [
      | else-marks-gate-ne0-via-then-marks-gate-ne0+else-unmarked w ↦
          told-fails u gs c.args.marks.now told (gate_by c.args.gate) (sym (w.unmarked.ensures u gs told) ∙ w.if-unmarked.false)
      | else-marks-gate-ne0-via-else-marks-gate-ne0 w ↦
          told-passes u gs c.args.marks.now told (gate_by c.args.gate) c.args.gate.result (result-of c.args.gate.kind c.args.gate.left c.args.gate.right c.args.gate.result) c.requires.result w.if-marks-gate-ne0.false
    ]
