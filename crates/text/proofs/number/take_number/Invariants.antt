-- The digits read so far have the value so far.
use Rattle.text.proofs.DigitByDigit as R
use Rattle.text.proofs.number.take_number.Given as goal

abbrev pub invariant-loop-i : goal.invariant-loop-i
invariant-loop-i l = R.Reading l.text l.start l.v l.more l.i
