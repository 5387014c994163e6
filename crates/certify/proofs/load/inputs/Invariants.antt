-- `certify_search::load::inputs` meets its contract.
use Rattle.certify.proofs.Rounds.{Loading}
use Rattle.certify.proofs.Drawing.{Drawing}
use Rattle.certify.proofs.load.inputs.Given as goal

abbrev pub invariant-loop-i : goal.invariant-loop-i
invariant-loop-i l = Loading l.codes l.words l.i × Drawing l.codes l.seed l.words l.noise l.i
