-- `number`: all digits but the last, and then the last.
use Rattle.writer.proofs.+number.Given as goal

abbrev pub decreases-number : goal.decreases-number
decreases-number l = l.count
