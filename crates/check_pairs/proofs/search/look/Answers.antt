-- `look`: a block's lowest leak and its first uneven pair.
use Rattle.check_pairs.proofs.Finds.{look-law}
use Rattle.check_pairs.proofs.search.look.Goals as goal

pub returns : goal.returns
returns c =
    let a = c.args in
    rw c.or.ensures
    (look-law a.held.words.now a.held.bases.now a.held.base.now a.pairs.now a.limit a.block c.scan-pair.result
    (rw c.limit-wires.ensures at c.scan-found.ensures) c.requires.2
    (rw c.unwrap_or-before.ensures at c.scan-pair.ensures) c.better.ensures)
