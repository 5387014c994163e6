-- The number of each question (docs/RULES.md, Questions).
use Rattle.std.specs.Prelude.{ℕ, List, codes}
use Rattle.netlist.specs.declared.Refusal.{Refusal}
use Rattle.netlist.specs.declared.Refusal.TheVariants as Q

abbrev pub number_of : Refusal → ℕ
number_of Q.Tables = 1
number_of Q.Length = 2
number_of Q.Bytes = 3
number_of Q.Header = 4
number_of Q.Limits = 5
number_of Q.Count = 6
number_of Q.Line = 7
number_of Q.Operands = 8
number_of Q.Wire = 9
number_of Q.Masks = 10
number_of Q.Inputs = 11
number_of Q.Settings = 12
number_of Q.Wanted = 13
number_of Q.Room = 14
number_of Q.OldForm = 15
number_of Q.Grammar = 16
number_of Q.Names = 17
number_of Q.Depth = 18
number_of Q.Aiger = 19
number_of Q.Latches = 20
number_of Q.Pairs = 21
number_of Q.Budget = 22
number_of Q.Gate = 23
number_of Q.Place = 24
number_of Q.Seam = 25
number_of Q.State = 26
number_of Q.Judged = 27

-- what each says in words
abbrev pub words_of : Refusal → List ℕ
words_of Q.Tables = codes "a working table is too short"
words_of Q.Length = codes "the text is too long"
words_of Q.Bytes = codes "a byte that no text has"
words_of Q.Header = codes "the header lines have not the stated form"
words_of Q.Limits = codes "too many wires or values, or more bits than wires"
words_of Q.Count = codes "the gate count is not the wires less the input bits, or not the number of gate lines"
words_of Q.Line = codes "the line is none of the five gates"
words_of Q.Operands = codes "an operand is neither an input nor the result of an earlier line"
words_of Q.Wire = codes "the result wire is an input, above the last wire or given twice"
words_of Q.Masks = codes "the last input value is not the two mask bits"
words_of Q.Inputs = codes "the input list has not one entry in range for each input bit"
words_of Q.Settings = codes "more than twelve input bits to try"
words_of Q.Wanted = codes "the wanted list has not one entry in range for each output bit"
words_of Q.Room = codes "a result buffer is too short"
words_of Q.OldForm = codes "the older dialect has no form for this netlist"
words_of Q.Grammar = codes "the text is not of the subset of Verilog that is read"
words_of Q.Names = codes "a name is undeclared, declared twice, or read or assigned where it may not be"
words_of Q.Depth = codes "parentheses are nested deeper than 32"
words_of Q.Aiger = codes "the text is not an ASCII AIGER file, or too large"
words_of Q.Latches = codes "the AIGER file has latches"
words_of Q.Pairs = codes "the list of pairs is of odd length or names a wire that is not there"
words_of Q.Budget = codes "the budget is 0"
words_of Q.Gate = codes "there is no gate to take off"
words_of Q.Place = codes "there is no place for another gate"
words_of Q.Seam = codes "the blocks do not fit at the seam"
words_of Q.State = codes "the state is none of this netlist's search for fewer changes"
words_of Q.Judged = codes "no wire is given to judge, or one that is not there"
