-- A refusal's line.
use Rattle.std.specs.Prelude.{Err}
use Rattle.program.proofs.Reporting.{refused-first}
use Rattle.cli_rewrite.proofs.Reports.{prints-as}
use Rattle.cli_rewrite.proofs.print.Goals as goal

pub returns-in-Err : goal.returns-in-Err
returns-in-Err c = prints-as _ (Err _) c.in-Err.is (refused-first _ c.refused.ensures c.requires.1)
