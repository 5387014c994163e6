-- `fidrovelj_workspace_span`: in a block of enough words each table has its place.
use Rattle.capi.proofs.Blocks.{fits}
use Rattle.capi.proofs.workspace.fidrovelj_workspace_span.Goals as goal

pub returns-then-total-words-clause-fits : goal.returns-then-total-words-clause-fits
returns-then-total-words-clause-fits c =
    let p = rw (c.wires-wires.ensures.0, c.sizes.ensures, c.kinds-kinds.ensures.0) at c.place.ensures in
    λ k e l. fits _ _ _ _ k _ p e l
