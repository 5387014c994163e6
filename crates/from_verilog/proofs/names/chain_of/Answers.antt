-- A remainder.
use Prim.Native.Nat.{◌%◌}
use mathlib.Core.Path.{ap}
use native.Mathlib.Nat.{mod-lt}
use Rattle.from_verilog.proofs.names.chain_of.Goals as goal

pub returns : goal.returns
returns c = (ap (λ n. n % c.args.size) c.hash.ensures, mod-lt _ c.requires)
