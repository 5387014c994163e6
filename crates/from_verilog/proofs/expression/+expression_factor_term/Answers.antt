use Rattle.std.proofs.Common.{arith, refl, ap, ◌∙◌}
use Rattle.from_verilog.specs.declared.tokens.Kind.TheVariants.{Xor, And, Name, Open}
use Rattle.from_verilog.specs.Kind.{number_of}
use Rattle.from_verilog.proofs.KindTests.{this_number, other_number, not_number}
use Rattle.from_verilog.proofs.Joins.{terms-start, terms-more, terms-end, factors-start, factors-more, factors-end}
use Rattle.from_verilog.proofs.Joins.{following-on, following-ready, sign-some, operand_after, factor-name}
use Rattle.from_verilog.proofs.Joins.{factor-group, factor-none}
use Rattle.from_verilog.proofs.expression.+expression_factor_term.Goals as goal

-- ---- an expression: terms with a sign between them

pub expression-term-v-requires : goal.expression-term-v-requires
expression-term-v-requires t c =
    let s = c.loop-names.invariant.onward _ (terms-start _ _ _ _ _ c.term-left.ensures) in
    let z = sign-some (this_number c.loop-names.left.token.kind Xor c.loop-names-test.ensures) refl in
    (omega (arith, c.decreases, following-on s z, s.token.within), following-ready s z c.requires)

pub expression-put-requires : goal.expression-put-requires
expression-put-requires t c =
    let s = c.loop-names.invariant.onward _ (terms-start _ _ _ _ _ c.term-left.ensures) in
    omega (arith, c.term-v.ensures.more, s.more, c.requires.first)

pub expression-overflow_add-left : goal.expression-overflow_add-left
expression-overflow_add-left t c =
    let u = c.term-v.ensures in
    let s = c.loop-names.invariant.onward _ (terms-start _ _ _ _ _ c.term-left.ensures) in
    omega (arith, u.few, u.token.start, u.token.onward, u.token.within, s.few, c.requires.room)

pub expression-loop-names-preserved : goal.expression-loop-names-preserved
expression-loop-names-preserved t c = record {
  operands = c.put.auto.operands ∙ c.term-v.auto.operands ∙ c.loop-names.invariant.operands;
  results = c.put.auto.results ∙ c.term-v.auto.results ∙ c.loop-names.invariant.results;
  onward = λ before h. terms-more _ _ _ _ _ (c.loop-names.invariant.onward before h)
      (this_number c.loop-names.left.token.kind Xor c.loop-names-test.ensures) c.term-v.ensures c.put.ensures;
}

pub expression-returns : goal.expression-returns
expression-returns t c =
    terms-end _ _ _ _ _ (c.loop-names.invariant.onward _ (terms-start _ _ _ _ _ c.term-left.ensures))
    (other_number c.loop-names.left.token.kind Xor c.loop-names-test.ensures)

-- ---- a factor: a name or an expression in parentheses, inverted or not

pub factor-returns-in-Name : goal.factor-returns-in-Name
factor-returns-in-Name t c =
    factor-name (operand_after _ _ _ _ c.eq-negated.ensures c.next-first.ensures c.past-t.ensures) _ _
    (ap number_of c.in-Name.is) c.wire_of-wire.ensures c.finish.ensures

pub factor-returns-in_default : goal.factor-returns-in_default
factor-returns-in_default t c =
    factor-none (operand_after _ _ _ _ c.eq-negated.ensures c.next-first.ensures c.past-t.ensures) _
    (not_number _ Name c.in_default.not-Name)
    (not_number _ Open c.in_default.not-Open) c.finish-in_default.ensures

pub factor-returns-in-Open : goal.factor-returns-in-Open
factor-returns-in-Open t c =
    factor-group (operand_after _ _ _ _ c.eq-negated.ensures c.next-first.ensures c.past-t.ensures) _
    (ap number_of c.in-Open.is) c.expression-e.ensures c.finish-in-Open.ensures

-- ---- a term: factors with a sign between them

pub term-factor-v-requires : goal.term-factor-v-requires
term-factor-v-requires t c =
    let s = c.loop-names.invariant.onward _ (factors-start _ _ _ _ _ c.factor-left.ensures) in
    let z = sign-some (this_number c.loop-names.left.token.kind And c.loop-names-test.ensures) refl in
    (omega (arith, c.decreases, following-on s z, s.token.within), following-ready s z c.requires)

pub term-put-requires : goal.term-put-requires
term-put-requires t c =
    let s = c.loop-names.invariant.onward _ (factors-start _ _ _ _ _ c.factor-left.ensures) in
    omega (arith, c.factor-v.ensures.more, s.more, c.requires.first)

pub term-overflow_add-left : goal.term-overflow_add-left
term-overflow_add-left t c =
    let u = c.factor-v.ensures in
    let s = c.loop-names.invariant.onward _ (factors-start _ _ _ _ _ c.factor-left.ensures) in
    omega (arith, u.few, u.token.start, u.token.onward, u.token.within, s.few, c.requires.room)

pub term-loop-names-preserved : goal.term-loop-names-preserved
term-loop-names-preserved t c = record {
  operands = c.put.auto.operands ∙ c.factor-v.auto.operands ∙ c.loop-names.invariant.operands;
  results = c.put.auto.results ∙ c.factor-v.auto.results ∙ c.loop-names.invariant.results;
  onward = λ before h. factors-more _ _ _ _ _ (c.loop-names.invariant.onward before h)
      (this_number c.loop-names.left.token.kind And c.loop-names-test.ensures) c.factor-v.ensures c.put.ensures;
}

pub term-returns : goal.term-returns
term-returns t c =
    factors-end _ _ _ _ _ (c.loop-names.invariant.onward _ (factors-start _ _ _ _ _ c.factor-left.ensures))
    (other_number c.loop-names.left.token.kind And c.loop-names-test.ensures)
