-- `holds`: the header is measured; where the longest lines do not fit after it, so is the whole text.
use mathlib.Core.Path.{sym, ◌∙◌}
use native.Mathlib.Omega.{arith}
use Rattle.mask.proofs.Wholes.{text-ample}
use Rattle.mask.proofs.masked_text.holds.Goals as goal

pub returns-then-ample : goal.returns-then-ample
returns-then-ample c =
    let a = c.args.job.source in
    λ N h z F. sym (text-ample h a.codes.now a.wanted.now z F (omega arith) c.header-header.ensures
    c.requires.ready.1 (sym c.ample.ensures ∙ c.if-ample.true))
