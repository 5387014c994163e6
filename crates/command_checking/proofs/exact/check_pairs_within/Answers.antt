-- What Check with pairs promises is said of the text.
use Rattle.command_checking.proofs.Saying.{pairs_answer}
use Rattle.command_checking.proofs.exact.check_pairs_within.Goals as goal

pub returns : goal.returns
returns c = pairs_answer c.check_pairs-answer.result c.check_pairs-answer.ensures
