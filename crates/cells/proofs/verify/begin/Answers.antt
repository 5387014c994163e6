-- `begin` keeps its invariant: an input's wire has the table of its place.
use Rattle.std.proofs.Common.{Vec, Global, ap, ◌∙◌}
use Rattle.std.proofs.lemmas.List.Elements.{All-same, All-push}
use Rattle.cells.specs.declared.verify.Known.{Known}
use Rattle.cells.specs.Verify.{Right}
use Rattle.cells.proofs.verify.begin.Goals as goal
use Rattle.cells.proofs.verify.begin.Goals.{then-place-lt6+in_ok-push, else-place-lt6}

pub loop-place-preserved : goal.loop-place-preserved
loop-place-preserved c u j set =
    let items = λ (v : Vec Known Global). v.items in
    elim c.if-place-lt6.branch [
      | then-place-lt6+in_ok-push w ↦
          All-same (Right u j) _ _ (ap items w.known-is ∙ w.in_ok-push.ensures.items)
          (All-push (Right u j) _ _ (c.loop-place.invariant u j set)
          (set c.loop-place.place c.loop-place-test.true w.if-place-lt6.true))
      | else-place-lt6 w ↦ All-same (Right u j) _ _ (ap items w.known-is) (c.loop-place.invariant u j set)
    ]
