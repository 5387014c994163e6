-- Three numbers, the name and the line's end.
use mathlib.Core.Path.{refl}
use Rattle.reader.proofs.GateWords.{line-following, line-no-number, line-named, named-gate, named-exact}
use Rattle.reader.proofs.gate_line.two_operands.Goals as goal

pub returns-in_default : goal.returns-in_default
returns-in_default c = line-no-number _ _ c.in_default.ensures

pub returns-in_default-next_number : goal.returns-in_default-next_number
returns-in_default-next_number c =
    line-following _ _ _ _ _ c.in-Some.ensures (line-no-number _ _ c.in_default-next_number.ensures)

pub returns-in_default-next_number-2 : goal.returns-in_default-next_number-2
returns-in_default-next_number-2 c =
    line-following _ _ _ _ _ c.in-Some.ensures (line-following _ _ _ _ _ c.in-Some-next_number.ensures
    (line-no-number _ _ c.in_default-next_number-2.ensures))

pub last_word-requires : goal.last_word-requires
last_word-requires c = named-exact _ _ c.gate2.ensures

pub returns : goal.returns
returns c =
    line-following _ _ _ _ _ c.in-Some.ensures (line-following _ _ _ _ _ c.in-Some-next_number.ensures
    (line-following _ _ _ _ _ c.in-Some-next_number-2.ensures
    (line-named _ refl _ _ _ _ _ c.next_word.ensures (named-gate _ _ c.gate2.ensures) c.last_word.ensures)))
