-- `search`: both answers, from what was found with a colour for each input.
use mathlib.Core.Path.{ap, ◌∙◌, subst}
use mathlib.Core.Bool.{true, false}
use mathlib.Core.List.{List}
use Prim.Native.Nat.{ℕ, ◌*◌, ◌/◌}
use lib.ListN.{length}
use Rattle.evaluate.specs.Bare.{bare}
use native.Mathlib.Omega.{arith}
use Rattle.leak_search.proofs.Paints.{length-each}
use Rattle.leak_search.proofs.Answers.{tells-found}
use Rattle.check_pairs.specs.Level.{counts_of}
use Rattle.check_pairs.specs.Search.{Found}
use Rattle.check_pairs.proofs.Finds.{tells-pairs}
use Rattle.gates.specs.Gates.{tables_of}
use Rattle.check_pairs.proofs.search.search.Goals as goal

pub find-requires-clause-lengths : goal.find-requires-clause-lengths
find-requires-clause-lengths c =
    let n = ap length c.each-paints.ensures ∙ length-each 0 c.args.codes.list.now in
    let r = c.requires.lengths in
    (omega (arith, n, r.1), r.2, r.3, c.blocks_of.ensures.1, omega arith, r.4)

pub returns : goal.returns
returns c = λ n o N h. let a = c.args in
    let find = c.find in
    let blocks = c.blocks_of in
    let N' = bare (tables_of a.gates) a.gates.count (length a.words.now) in
    let W = length a.words.now in
    let S = blocks.result * 16 in
    let found = subst (λ (ps : List ℕ). Found (counts_of N' false ps) (counts_of N' true ps) a.pairs.now W
    (length a.pairs.now / 2) S find.result)
    c.each-paints.ensures find.ensures in (
      tells-found h a.codes.list.now S find.result.leak blocks.ensures.0 a.codes.small found.lowest,
      tells-pairs h a.codes.list.now a.codes.small a.pairs.now S find.result.pair blocks.ensures.0 found.uneven,
    )
