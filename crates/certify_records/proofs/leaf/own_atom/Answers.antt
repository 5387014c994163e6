-- `certify_records::leaf::own_atom` meets its contract.
use mathlib.Core.Path.{ap}
use Prim.Native.Nat.{ℕ, ◌+◌, ◌*◌}
use Rattle.evaluate.proofs.Lanes.{bit-low}
use Rattle.certify_records.proofs.leaf.own_atom.Goals as goal

pub returns : goal.returns
returns c = ap (λ (b : ℕ). 8 * c.args.wire + (2 * c.args.setting + b)) (bit-low c.args.setting c.args.table)
