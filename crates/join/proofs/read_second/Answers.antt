-- `read_second`: the second text, and then the joined text.
use Rattle.std.proofs.Common.{[], ◌∷◌, length}
use Rattle.netlist.specs.Netlist.{masked_limits}
use Rattle.join.proofs.Calling.{block_read, block-numbers, block-codes, block-second, second-read}
use Rattle.join.proofs.read_second.Goals as goal

pub deliver-requires-clause-blocks : goal.deliver-requires-clause-blocks
deliver-requires-clause-blocks c =
    let k = c.in_ok-b.ensures.1 in
    (c.requires.first, block-numbers k, block-codes k)

pub returns : goal.returns
returns c = λ A F.
    let s = c.args in
    let k = c.in_ok-b.ensures.1 in
    let ls = length s.words.now ∷ length s.base.now ∷ length s.marks.now ∷ [] in
    second-read (masked_limits s.sizes) ls s.second.now s.codes.now s.out_codes.now s.out.now A (block_read k)
    (c.deliver.ensures A k.at.is F (block-second k))
