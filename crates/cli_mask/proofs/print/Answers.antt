-- The line of the output codes and the text, or a refusal's line.
use Rattle.std.specs.Prelude.{Err, Ok}
use Rattle.std.proofs.Common.{arith, take, length-take}
use Rattle.program.proofs.Reporting.{few-first, refused-first}
use Rattle.cli_mask.proofs.Reports.{prints-as, prints-text, prints-line}
use Rattle.cli_mask.proofs.print.Goals as goal

pub returns-in-Ok : goal.returns-in-Ok
returns-in-Ok c =
    let codes = take c.args.codes c.args.out_codes.now in
    let few = length-take c.args.codes c.args.out_codes.now in
    prints-as _ _ (Ok _) c.in-Ok.is
    (prints-text codes _ _ (few-first c.digits.ensures (omega (arith, few, c.requires.1)))
    (c.requires.0 _ c.in-Ok.is).0)

pub returns-in-Err : goal.returns-in-Err
returns-in-Err c =
    prints-as _ _ (Err _) c.in-Err.is
    (prints-line _ (refused-first _ c.refused.ensures (omega (arith, c.requires.1))))
