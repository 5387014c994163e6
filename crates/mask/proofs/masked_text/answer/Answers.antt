-- `answer`: question 14 of the codes and of the text, and both buffers filled.
use mathlib.Core.Path.{sym, ◌∙◌}
use native.Mathlib.Omega.{arith}
use Rattle.mask.specs.Job.{masked}
use Rattle.mask.proofs.Wholes.{delivered, source-same}
use Rattle.mask.proofs.masked_text.answer.Goals as goal

pub returns-then-holds : goal.returns-then-holds
returns-then-holds c =
    let m = c.holds in
    let k = m.auto.twin_wires in
    λ N h z F. delivered (masked c.args.job N) (sym (m.ensures N h z F) ∙ c.if-holds.true) (omega arith)
    (omega (arith, z.codes, c.if-out_codes-job.false)) (c.fill.ensures N (source-same k h) z)
