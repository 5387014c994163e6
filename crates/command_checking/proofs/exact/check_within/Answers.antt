-- What Check promises is said of the text.
use Rattle.command_checking.proofs.Saying.{check_answers}
use Rattle.command_checking.proofs.exact.check_within.Goals as goal

pub returns : goal.returns
returns c = check_answers c.check-answer.result c.check-answer.ensures
