-- Three stores.
use Prim.Native.Nat.{ℕ, ◌+◌}
use mathlib.Core.Path.{ap}
use lib.ListN.{set, get_or}
use Rattle.from_verilog.proofs.names.add.Goals as goal

pub returns : goal.returns
returns c = record {
  headed = ap (λ (k : ℕ). set c.args.heads.now k
      (c.args.count + 1)) c.chain_of-k.ensures.0;
  worded = ap (λ (e : ℕ). set c.args.words.now c.args.count e) c.pack.ensures;
  linked = ap
      (λ (k : ℕ). set c.args.links.now
      c.args.count (get_or c.args.heads.now
      k 0)) c.chain_of-k.ensures.0;
}
