-- `leak::load::inputs` meets its contract.
use Prim.Native.Nat.{◌≤◌}
use lib.ListN.{length}
use Rattle.leak_search.proofs.Loads.{Loaded}
use Rattle.leak_search.proofs.load.inputs.Given as goal

abbrev pub invariant-loop-i : goal.invariant-loop-i
invariant-loop-i l = Loaded l.paints l.secrets l.block l.initial.words l.words l.i × (l.i ≤ length l.paints)
