-- `certify_search::load::inputs` meets its contract.
use lib.ListN.{length}
use mathlib.Core.Path.{◌≡◌, refl, subst}
use Rattle.certify.proofs.InputWires.{mask-is}
use Rattle.certify.proofs.Rounds.{loading-more, loading-all}
use Rattle.certify.proofs.Drawing.{Drawing, drawing-more, words-set}
use native.Mathlib.Omega.{arith}
use Rattle.certify.proofs.load.inputs.Goals as goal

pub loop-i-init : goal.loop-i-init
loop-i-init c = (λ k h. absurd (omega arith), record { words_are = λ k h. absurd (omega arith); noise_is = refl })

pub loop-i-preserved : goal.loop-i-preserved
loop-i-preserved c =
    let l = c.loop-i in (
      loading-more _ _ _ _ l.invariant.0 (omega (arith, c.requires)) c.input.ensures.says,
      drawing-more l.invariant.1 (omega (arith, c.requires)) c.mixed-noise.ensures c.input.ensures.is,
    )

pub returns : goal.returns
returns c =
    let l = c.loop-i in
    let codes = c.args.codes.now in
    let e : l.i ≡ length codes = omega arith in
    let d : Drawing codes c.args.seed l.words l.noise (length codes) = subst (Drawing codes c.args.seed l.words l.noise)
    e l.invariant.1 in
    record {
      says = loading-all _ _ (rw e at l.invariant.0) (omega (arith, c.requires)) c.mask.ensures c.mask-2.ensures;
      words = words-set codes l.words c.args.seed l.noise c.mask.result c.mask-2.result d (omega (arith, c.requires))
          (mask-is c.mask.result 1 c.mask.type_inv c.mask.ensures)
          (mask-is c.mask-2.result 2 c.mask-2.type_inv c.mask-2.ensures);
      noise = d.noise_is;
    }
