-- `search::leaks`: Check's search is that by colours with a colour for each input.
use mathlib.Core.Path.{ap, ◌∙◌, subst}
use mathlib.Core.Bool.{true, false}
use mathlib.Core.List.{List}
use Prim.Native.Nat.{ℕ, ◌*◌}
use lib.ListN.{length}
use Rattle.evaluate.specs.Bare.{bare}
use Rattle.leak_search.specs.Base.{count_in}
use Rattle.leak_search.proofs.Paints.{length-each}
use native.Mathlib.Omega.{arith}
use Rattle.leak_search.specs.Difference.{LowestDifference}
use Rattle.leak_search.proofs.Answers.{tells-found}
use Rattle.gates.specs.Gates.{tables_of}
use Rattle.leak_search.proofs.search.leaks.Goals as goal

pub find-requires-clause-lengths : goal.find-requires-clause-lengths
find-requires-clause-lengths c =
    let n = ap length c.each-paints.ensures ∙ length-each 0 c.args.codes.list.now in
    (omega (arith, n, c.requires.lengths), c.requires.lengths.2, c.blocks_of.ensures.1)

pub returns : goal.returns
returns c = λ n o N h. let a = c.args in
    let find = c.find in
    let blocks = c.blocks_of in
    let N' = bare (tables_of a.gates) a.gates.count (length a.words.now) in
    tells-found h a.codes.list.now (blocks.result * 16) find.result blocks.ensures.0 a.codes.small
    (subst (λ (ps : List ℕ). LowestDifference (count_in N' false ps) (count_in N' true ps) (length a.words.now)
    (blocks.result * 16) find.result)
    c.each-paints.ensures find.ensures)
