-- The measures of the cycle: three times the text left, and how far a function stands from the next token.
use Rattle.std.proofs.Common.{◌+◌, length, ◌-◌, ◌*◌}
use Rattle.from_verilog.specs.Kind.{number_of}
use Rattle.from_verilog.specs.Wires.{wire_of}
use Rattle.from_verilog.proofs.Joins.{Terms, Factors, Looping, left}
use Rattle.from_verilog.proofs.expression.+expression_factor_term.Given as goal

abbrev pub decreases-expression : goal.decreases-expression
decreases-expression l = 3 * (length l.names.text.now - l.from) + 2

abbrev pub decreases-factor : goal.decreases-factor
decreases-factor l = 3 * (length l.names.text.now - l.from)

abbrev pub decreases-term : goal.decreases-term
decreases-term l = 3 * (length l.names.text.now - l.from) + 1

abbrev pub invariant-expression-loop-names : goal.invariant-expression-loop-names
invariant-expression-loop-names l = Looping
    (Terms (wire_of l.names.text.now l.names.words.now l.wires (length l.names.words.now)) l.names.text.now l.inputs
    l.from
    l.next)
    l.initial.operands l.initial.results l.operands l.results l.initial.left l.left

abbrev pub decreases-expression-loop-names : goal.decreases-expression-loop-names
decreases-expression-loop-names l = left l.names.text.now (number_of l.left.token.kind) l.left.token.to

abbrev pub invariant-term-loop-names : goal.invariant-term-loop-names
invariant-term-loop-names l = Looping
    (Factors (wire_of l.names.text.now l.names.words.now l.wires (length l.names.words.now)) l.names.text.now l.inputs
    l.from
    l.next)
    l.initial.operands l.initial.results l.operands l.results l.initial.left l.left

abbrev pub decreases-term-loop-names : goal.decreases-term-loop-names
decreases-term-loop-names l = left l.names.text.now (number_of l.left.token.kind) l.left.token.to
