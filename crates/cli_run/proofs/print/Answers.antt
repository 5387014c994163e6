-- The bits as digits, or a refusal's line.
use Rattle.std.specs.Prelude.{Err, Ok}
use Rattle.std.proofs.Common.{arith, length-take}
use Rattle.program.proofs.Reporting.{few-first, refused-first}
use Rattle.cli_run.proofs.Reports.{prints-as}
use Rattle.cli_run.proofs.print.Goals as goal

pub returns-in-Ok : goal.returns-in-Ok
returns-in-Ok c =
    prints-as _ (Ok _) c.in-Ok.is
    (few-first c.digits.ensures (omega (arith, length-take c.in-Ok.n c.args.bits.now, c.requires.1)))

pub returns-in-Err : goal.returns-in-Err
returns-in-Err c =
    prints-as _ (Err _) c.in-Err.is (refused-first _ c.refused.ensures (omega (arith, c.requires.1)))
