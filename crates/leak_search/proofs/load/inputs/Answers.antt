-- `leak::load::inputs` meets its contract.
use native.Mathlib.Omega.{arith}
use Rattle.leak_search.proofs.Loads.{loaded-input, loaded-all}
use Rattle.leak_search.proofs.load.inputs.Goals as goal

pub loop-i-preserved : goal.loop-i-preserved
loop-i-preserved c =
    let at = c.loop-i in (
      loaded-input c.args.paints.now c.args.secrets c.args.block c.args.words.now at.words c.requires at.i
          c.input.result
          at.invariant.0 c.loop-i-test.true c.input.ensures,
      omega arith,
    )

pub returns : goal.returns
returns c j l =
    let at = c.loop-i in
    loaded-all c.args.paints.now c.args.secrets c.args.block c.args.words.now at.words at.i c.mask.result
    c.mask-2.result c.requires at.invariant.0 (omega arith)
    (c.mask.ensures c.args.block) (c.mask-2.ensures c.args.block) j l
