-- `refresh`: a run of the bases, or the first setting's words for all, or those that are held.
use mathlib.Core.Path.{◌∙◌}
use Prim.Native.Nat.{◌+◌}
use Rattle.check_pairs.proofs.Lanes.{same-words, first-words}
use Rattle.check_pairs.proofs.base.refresh.Goals as goal

pub returns-then-block-eq0 : goal.returns-then-block-eq0
returns-then-block-eq0 c =
    let a = c.args in
    let first = c.repeat in
    let secret = (c.requires.held.1 c.if-blocks.false).0 in
    let long = first.auto.bases ∙ c.requires.lengths.1 in
    let zero = c.if-block-eq0.true in
    let counts = c.tally-then-block-eq0.ensures in (
      record {
        words = first-words a.blocks.paints.now secret a.block zero c.requires.held.0 long first.ensures;
        counts
            = counts;
      },
      λ _. (
        secret,
        λ _. record {
          words = first-words a.blocks.paints.now secret (a.block + 1) zero c.requires.held.0 long
              first.ensures;
          counts = counts;
        },
      ),
    )

pub returns-else-block-eq0 : goal.returns-else-block-eq0
returns-else-block-eq0 c =
    let r = c.requires.held.1 c.if-blocks.false in
    let held = r.1 c.if-block-eq0.false in (
      held,
      λ _. (
        r.0,
        λ _. record {
          words = same-words c.args.blocks.paints.now r.0 c.args.block (c.args.block + 1)
              held.words;
          counts = held.counts;
        },
      ),
    )
