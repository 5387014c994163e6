-- `leak::block::tally` meets its contract.
use Rattle.leak_search.proofs.Tallies.{tallied-all, ones-past}
use native.Mathlib.Omega.{arith}
use Rattle.leak_search.proofs.block.tally.Goals as goal

pub returns : goal.returns
returns c =
    let words = c.args.words.now in
    tallied-all c.loop-word.invariant (omega arith) (ones-past words)
