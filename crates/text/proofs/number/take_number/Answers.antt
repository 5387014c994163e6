-- The digits read so far have the value so far.
use mathlib.Core.Path.{sym, ◌∙◌}
use Rattle.text.proofs.DigitByDigit as R
use borrow.Author.Rules.{rules}
use native.Mathlib.Omega.{arith}
use Rattle.text.proofs.number.take_number.Goals as goal

pub returns-then-text-start : goal.returns-then-text-start
returns-then-text-start c = R.first-none _ _ c.if-text-start.true

pub returns-then-not-is_digit : goal.returns-then-not-is_digit
returns-then-not-is_digit c =
    let s = c.args in
    R.first-other s.text.now s.start (search rules) (sym c.is_digit.ensures ∙ c.if-not-is_digit.true)

pub digit_value-v-requires : goal.digit_value-v-requires
digit_value-v-requires c = sym c.is_digit.ensures ∙ c.if-not-is_digit.false

pub loop-i-init : goal.loop-i-init
loop-i-init c = R.reading-start _ _ _ (search rules) (sym c.is_digit.ensures ∙ c.if-not-is_digit.false)
    c.digit_value-v.ensures.0

pub returns-then-b-eq32 : goal.returns-then-b-eq32
returns-then-b-eq32 c = R.reading-space _ _ _ _ _ c.loop-i.invariant (search rules) c.if-b-eq32.true

pub returns-then-is_blank : goal.returns-then-is_blank
returns-then-is_blank c =
    R.reading-stop _ _ _ _ _ c.loop-i.invariant (search rules) c.if-b-lt32.true
    (sym c.is_blank.ensures ∙ c.if-is_blank.true)

pub returns-else-is_blank : goal.returns-else-is_blank
returns-else-is_blank c =
    R.reading-other _ _ _ _ _ c.loop-i.invariant (search rules)
    (sym c.is_blank.ensures ∙ c.if-is_blank.false)
    (sym c.is_digit-in-loop-i.ensures ∙ c.if-not-is_digit-2.true)

pub returns-else-b-lt32 : goal.returns-else-b-lt32
returns-else-b-lt32 c =
    R.reading-above _ _ _ _ _ c.loop-i.invariant (search rules) (omega arith)
    (sym c.is_digit-in-loop-i.ensures ∙ c.if-not-is_digit-2.true)

pub returns-then-is_full : goal.returns-then-is_full
returns-then-is_full c =
    R.reading-full _ _ _ _ _ c.loop-i.invariant (search rules)
    (sym c.is_digit-in-loop-i.ensures ∙ c.if-not-is_digit-2.false)
    (sym c.is_full.ensures ∙ c.if-is_full.true)

pub overflow_mul-v : goal.overflow_mul-v
overflow_mul-v c = omega (
  arith,
  R.reading_small _ _ _ _ _ c.loop-i.invariant
      (sym c.is_full.ensures ∙ c.if-is_full.false),
)

pub digit_value-requires : goal.digit_value-requires
digit_value-requires c = sym c.is_digit-in-loop-i.ensures ∙ c.if-not-is_digit-2.false

pub overflow_add-v : goal.overflow_add-v
overflow_add-v c =
    omega (
      arith,
      R.reading_small _ _ _ _ _ c.loop-i.invariant
          (sym c.is_full.ensures ∙ c.if-is_full.false),
      c.digit_value.ensures.1,
    )

pub loop-i-preserved : goal.loop-i-preserved
loop-i-preserved c =
    R.reading-on _ _ _ _ _ c.loop-i.invariant _ (search rules)
    (sym c.is_digit-in-loop-i.ensures ∙ c.if-not-is_digit-2.false) c.digit_value.ensures.0
    (sym c.is_full.ensures ∙ c.if-is_full.false)

pub returns : goal.returns
returns c = R.reading_all _ _ _ _ _ c.loop-i.invariant (search rules)
