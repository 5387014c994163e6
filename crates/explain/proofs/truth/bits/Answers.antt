-- `truth::bits`: a colour for each input.
use Rattle.std.proofs.Common.{arith, ap, ◌∙◌, ℕ, List, length}
use Rattle.netlist.specs.Eval.{bit, bits_at, wire_bits}
use Rattle.evaluate.specs.Bare.{bare}
use Rattle.gates.specs.Gates.{tables_of}
use Rattle.leak_search.specs.Block.{inputs_at}
use Rattle.leak_search.proofs.Paints.{length-each}
use Rattle.explain.proofs.Laying.{bits-told, enough}
use Rattle.explain.proofs.truth.bits.Goals as goal

pub lay-requires-clause-lengths : goal.lay-requires-clause-lengths
lay-requires-clause-lengths c =
    let n = ap length c.each-paints.ensures ∙ length-each 0 c.args.codes.list.now in
    (omega (arith, n, c.requires.lengths), c.blocks_of-blocks.ensures.1)

pub returns : goal.returns
returns c = λ n o N h i l.
    let a = c.args in
    let k = enough (length a.codes.list.now) c.blocks_of-blocks.result c.blocks_of-blocks.ensures.0 in
    let N' = bare (tables_of a.gates) a.gates.count (length a.words.now) in
    let long = c.lay.auto.table in
    let q = c.lay.ensures i (omega (arith, l, long)) (omega (arith, l, long, c.requires.lengths.2, k)) in
    q ∙ ap bit (ap (λ (ps : List ℕ). bits_at (wire_bits N' (inputs_at a.secrets ps i)) a.wire) c.each-paints.ensures
    ∙ bits-told h a.secrets a.codes.list.now a.codes.small a.wire i)
