-- `paint::each`: the paints are laid one by one.
use mathlib.Core.Path.{ap, ◌∙◌}
use lib.ListN.{length, take}
use lib.Seq.{take_at}
use Rattle.netlist.proofs.Laid.{laid_none, laid_more, laid-all}
use Rattle.leak_search.specs.Paint.{paint_each}
use Rattle.leak_search.proofs.Paints.{length-each, each_at}
use native.Mathlib.Omega.{arith}
use Rattle.leak_search.proofs.paint.each.Goals as goal

pub loop-i-init : goal.loop-i-init
loop-i-init c = (laid_none 0 _ _, omega arith)

pub loop-i-preserved : goal.loop-i-preserved
loop-i-preserved c =
    let a = c.args in
    let at = c.loop-i in
    let l = c.loop-i-test.true in
    let n = length-each 0 a.codes.list.now in
    let v = each_at 0 a.codes.list.now at.i l in
    (laid_more _ at.invariant.0 (omega arith) (omega (arith, at.invariant.0.long)) (omega arith), omega arith)

pub returns : goal.returns
returns c =
    let a = c.args in
    let n = length-each 0 a.codes.list.now in
    let at = c.loop-i in
    ap (take (length a.codes.list.now)) (laid-all at.invariant.0 (omega arith))
    ∙ take_at (paint_each 0 a.codes.list.now) _ (length a.codes.list.now) n
