-- `leak::block::tally` meets its contract.
use Rattle.leak_search.specs.Block.{ones_of}
use Rattle.leak_search.proofs.Tallies.{Tallied}
use Rattle.leak_search.proofs.block.tally.Given as goal

abbrev pub invariant-loop-word : goal.invariant-loop-word
invariant-loop-word l = Tallied (ones_of l.initial.words) l.initial.words l.words l.word-index
