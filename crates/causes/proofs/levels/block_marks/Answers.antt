-- `levels::block_marks`: a block's counts, those of the bases, and the marks.
use mathlib.Core.Bool.{true, false}
use mathlib.Core.Path.{sym, subst, ◌∙◌}
use Prim.Native.Nat.{ℕ, ◌+◌}
use native.Mathlib.Omega.{arith}
use Rattle.netlist.proofs.Puts.{wired-same}
use Rattle.evaluate.specs.Bare.{bare}
use Rattle.leak_search.specs.Block.{ones_of, nibbles_of, Counted, Ready}
use Rattle.leak_search.proofs.BlockRuns.{run-block-law}
use Rattle.gates.specs.Gates.{tables_of}
use Rattle.causes.proofs.Marking.{joined-same}
use Rattle.causes.proofs.levels.block_marks.Goals as goal

pub refresh-requires : goal.refresh-requires
refresh-requires c =
    let run = c.run in
    let t = tables_of c.args.blocks.gates in
    let k = run.auto.words in
    record {
      wired = wired-same k c.requires.wired;
      lengths = (omega (arith, c.requires.lengths.0, k), c.requires.lengths.1 ∙ sym k);
      held = subst
          (λ (W : ℕ). Counted (bare t c.args.blocks.gates.count W) true c.args.blocks.paints.now (ones_of run.new.words)
          c.args.block
          × Ready c.args.blocks.publics (bare t c.args.blocks.gates.count W) c.args.blocks.paints.now c.args.base.now
          c.args.block)
          (sym k) (run-block-law run.ensures, c.requires.lengths.3);
    }

pub returns : goal.returns
returns c =
    let run = c.run in
    let refresh = c.refresh in
    let base = refresh.new.base in
    let t = tables_of c.args.blocks.gates in
    let based = subst
    (λ (W : ℕ). Counted (bare t c.args.blocks.gates.count W) false c.args.blocks.paints.now (nibbles_of base)
    c.args.block
    × Ready c.args.blocks.publics (bare t c.args.blocks.gates.count W) c.args.blocks.paints.now base (c.args.block + 1))
    run.auto.words refresh.ensures in
    let counts = run-block-law run.ensures in
    (λ w l. joined-same (based.0.each w) (counts.each w) (c.mark.ensures w (omega (arith, run.auto.words))), based.1)
