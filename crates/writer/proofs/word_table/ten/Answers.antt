-- `ten`: words of one digit, of two, or of three.
use Rattle.writer.proofs.Filling.{tens-none, tens-two, tens-three}
use native.Mathlib.Omega.{arith}
use Rattle.writer.proofs.word_table.ten.Goals as goal
use Rattle.writer.proofs.word_table.ten.Goals.{in-0, in-1-to-9, in_default}

pub ones-requires : goal.ones-requires
ones-requires c = (
  c.requires.0,
  elim c.match-tens.branch [
    | in-0 w ↦ rw w.word-is (tens-none _ w.in-0.is)
    | in-1-to-9 w ↦ rw w.word-is (tens-two _ (omega arith) (omega arith))
    | in_default w ↦ rw w.word-is (tens-three _ (omega arith) c.requires.1)
  ],
)
