-- `levels::levels`: the marks of all settings.
use Rattle.std.proofs.Common.{arith, ap, ◌∙◌, ℕ, ◌*◌, List, length, get_or, true, false, subst}
use Rattle.evaluate.specs.Bare.{bare}
use Rattle.gates.specs.Gates.{tables_of}
use Rattle.leak_search.specs.Base.{count_in}
use Rattle.leak_search.proofs.Paints.{length-each}
use Rattle.causes.specs.Marked.{MarkOf}
use Rattle.causes.proofs.Testing.{tested}
use Rattle.causes.proofs.levels.levels.Goals as goal

pub all_marks-requires-clause-lengths : goal.all_marks-requires-clause-lengths
all_marks-requires-clause-lengths c =
    let n = ap length c.each-paints.ensures ∙ length-each 0 c.args.codes.list.now in
    (omega (arith, n, c.requires.lengths), c.requires.lengths.2, c.requires.lengths.3, c.blocks_of-blocks.ensures.1)

pub returns : goal.returns
returns c = λ n o N h w l.
    let a = c.args in
    let N' = bare (tables_of a.gates) a.gates.count (length a.words.now) in
    tested h a.codes.list.now a.codes.small (c.blocks_of-blocks.result * 16) w _ c.blocks_of-blocks.ensures.0
    (subst (λ (ps : List ℕ). MarkOf (get_or c.all_marks.new.marks w 0) (count_in N' false ps w) (count_in N' true ps w)
    (c.blocks_of-blocks.result * 16))
    c.each-paints.ensures (c.all_marks.ensures w l))
