-- `reach::one_of`: nothing is added by no members, or by the same.
use mathlib.Core.Path.{sym, ap, ◌∙◌}
use Rattle.check_wide.specs.Sets.{merge}
use Rattle.check_wide.proofs.Merges.{merge_none, merge-same}
use Rattle.check_wide.specs.Packed.{set_at}
use Rattle.check_wide.specs.WireSets.{sets_of}
use Rattle.check_wide.proofs.reach.one_of.Goals as goal
use Rattle.check_wide.proofs.reach.one_of.Goals.{then-empty, else-empty}

pub returns-then-same : goal.returns-then-same
returns-then-same c =
    let a = c.args in
    let S = sets_of a.sets in
    let x = set_at S a.first in (
      c.requires.0,
      elim c.if-empty.branch [
        | then-empty w ↦ ap (merge x) (c.empty.ensures w.if-empty.true a.sets.set1.now a.sets.set2.now a.sets.set3.now)
            ∙ merge_none x
        | else-empty w ↦ ap (merge x) (sym (w.same.ensures (sym w.value-is ∙ c.if-same.true))) ∙ merge-same x
      ],
    )
