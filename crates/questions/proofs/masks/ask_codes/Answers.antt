-- `ask_codes`: questions 10 and 11.
use mathlib.Core.Path.{sym, ◌∙◌}
use native.Mathlib.Omega.{arith}
use Rattle.questions.proofs.Asking.{masks-bits}
use Rattle.questions.proofs.masks.ask_codes.Goals as goal

pub overflow_sub-bits : goal.overflow_sub-bits
overflow_sub-bits c = omega (
  arith,
  c.requires,
  masks-bits c.args.widths.now
      (sym c.ends_in_masks.ensures ∙ c.if-not-ends_in_masks.false),
)
