-- `choice::count_changes`.
use lib.ListN.{take, drop, length}
use Prim.Native.Nat.{◌-◌}
use Rattle.fewest.proofs.Ending.{ends-most}
use native.Mathlib.Omega.{arith}
use Rattle.fewest.proofs.choice.count_changes.Goals as goal

pub overflow_add-result : goal.overflow_add-result
overflow_add-result c =
    let a = c.args in
    let from = length a.wire_codes.now - length a.source.wanted.now in
    let h = ends-most (take (length a.wire_codes.now - from) (drop from a.wire_codes.now)) a.source.wanted.now in
    omega (arith, h, c.outputs.ensures, c.requires.2, c.requires.3)
