-- `level`: the difference of both wires together, and those of each.
use borrow.Author.Tests.{eqb-true, eq-eqb}
use Rattle.netlist.proofs.Tests.{clash}
use Rattle.check_pairs.proofs.Levels.{agreed-level, level-agreed, none-level, level-none}
use borrow.Author.Rules.{rules}
use Rattle.check_pairs.proofs.pair.level.Goals as goal

pub returns-then-agreed : goal.returns-then-agreed
returns-then-agreed c =
    let a = c.args in
    let held = c.counts-held in
    let both = c.differ-both in (
      λ e. agreed-level a.block.words.now a.block.bases.now a.block.base.now a.left a.right held.result both.result
          held.ensures
          both.ensures
          (c.requires.2 c.if-agreed.true) c.requires.0 c.requires.1 (eqb-true _ 0 e),
      λ e all.
          let z = eq-eqb _ 0 (level-agreed a.block.words.now a.block.bases.now a.block.base.now a.left a.right
          held.result both.result
          held.ensures
          both.ensures (search rules) all) in
          clash (cc),
    )

pub returns : goal.returns
returns c =
    let a = c.args in
    let held = c.counts-held in
    let both = c.differ-both in
    let one = c.differ-first in
    let two = c.differ-second in (
      λ e. none-level a.block.words.now a.block.bases.now a.block.base.now a.left a.right held.result both.result
          held.ensures both.ensures
          one.result two.result one.ensures two.ensures (eqb-true _ 0 e),
      λ e all.
          let z = eq-eqb _ 0 (level-none a.block.words.now a.block.bases.now a.block.base.now a.left a.right held.result
          both.result
          held.ensures
          both.ensures one.result two.result one.ensures two.ensures (search rules) (search rules) (search rules) all)
          in
          clash (cc),
    )
