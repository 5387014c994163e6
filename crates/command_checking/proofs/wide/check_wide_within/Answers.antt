-- What the check of many inputs promises is said of the text.
use Rattle.command_checking.proofs.Saying.{wide_answers}
use Rattle.command_checking.proofs.wide.check_wide_within.Goals as goal

pub returns : goal.returns
returns c = wide_answers c.check_wide-answer.result c.check_wide-answer.ensures
