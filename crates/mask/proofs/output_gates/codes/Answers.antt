-- `mask_pass::outs::codes` meets its contract.
use Prim.Native.Nat.{◌+◌}
use mathlib.Core.Path.{◌≡◌}
use Rattle.mask.proofs.OutputLines.{picked_more}
use native.Mathlib.Omega.{arith}
use Rattle.mask.proofs.output_gates.codes.Goals as goal

pub loop-i-preserved : goal.loop-i-preserved
loop-i-preserved c =
    let q : c.put.result ≡ c.loop-i.i + 1 = omega (arith, c.put.ensures.next) in
    rw q at (picked_more c.loop-i.invariant c.loop-i-test.true (omega arith) c.requires c.pick.ensures c.put.ensures)
