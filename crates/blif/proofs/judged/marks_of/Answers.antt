-- `marks_of` keeps its invariant: a mark that is there stays.
use Rattle.std.proofs.Common.{ℕ, ◌<◌, subst, sym, ◌∙◌}
use Rattle.std.proofs.lemmas.List.{take_all}
use Rattle.std.proofs.lemmas.List.Elements.{All-more, All-weaker, All-same}
use Rattle.blif.specs.Judged.{IsMarked}
use Rattle.blif.proofs.judged.marks_of.Goals as goal

pub loop-wire-preserved : goal.loop-wire-preserved
loop-wire-preserved c =
    let old = c.loop-wire.marks.items in
    let new = c.mark.new.marks.items in
    let stays = All-weaker (IsMarked old) (IsMarked new)
    (λ w m l. c.mark.ensures.kept w (m (subst (λ (n : ℕ). w < n) c.mark.ensures.long l))) _ c.loop-wire.invariant.1 in (
      c.mark.ensures.long ∙ c.loop-wire.invariant.0,
      All-more (IsMarked new) c.args.nets.now c.loop-wire.wire-index _ c.loop-wire-test.true stays c.mark.ensures.marked,
    )

pub returns-clause-marked : goal.returns-clause-marked
returns-clause-marked c =
    All-same (IsMarked c.loop-wire.marks.items) _ _ (sym (take_all c.loop-wire.wire-index c.args.nets.now c.loop-wire-test.false))
    c.loop-wire.invariant.1
