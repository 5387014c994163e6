-- `Blocks::refresh`: a run of the bases, or the first setting's counts for all, or those that are held.
use mathlib.Core.Path.{subst}
use mathlib.Core.Bool.{false}
use Prim.Native.Nat.{ℕ, ◌+◌}
use lib.ListN.{length}
use Rattle.netlist.proofs.Tests.{clash}
use Rattle.evaluate.specs.Bare.{bare}
use Rattle.leak_search.specs.Block.{Evaluated}
use Rattle.leak_search.proofs.BlockRuns.{run-block-law}
use Rattle.leak_search.proofs.Bases.{counted_same, same_base, first-base}
use Rattle.gates.specs.Gates.{tables_of}
use Rattle.leak_search.proofs.block.Blocks.refresh.Goals as goal

pub returns-then-self : goal.returns-then-self
returns-then-self c =
    let run = c.run in
    let t = tables_of c.args.self.gates in
    let ran = subst
    (λ (W : ℕ). Evaluated (bare t c.args.self.gates.count W) false c.args.self.paints.now run.new.words c.args.block)
    c.requires.lengths.1 run.ensures in
    let public = c.if-self.true in
    (counted_same (run-block-law ran) c.tally.ensures, λ e. clash (cc))

pub returns-then-block-eq0 : goal.returns-then-block-eq0
returns-then-block-eq0 c =
    let N = bare (tables_of c.args.self.gates) c.args.self.gates.count (length c.args.words.now) in
    let secret = (c.requires.held.1 c.if-self.false).0 in
    let first = first-base N c.args.self.paints.now secret c.args.block c.if-block-eq0.true c.requires.held.0
    c.first.ensures in
    (first, λ _. (secret, λ _. same_base N c.args.self.paints.now secret c.args.block (c.args.block + 1) first))

pub returns-else-block-eq0 : goal.returns-else-block-eq0
returns-else-block-eq0 c =
    let N = bare (tables_of c.args.self.gates) c.args.self.gates.count (length c.args.words.now) in
    let r = c.requires.held.1 c.if-self.false in
    let held = r.1 c.if-block-eq0.false in
    (held, λ _. (r.0, λ _. same_base N c.args.self.paints.now r.0 c.args.block (c.args.block + 1) held))
