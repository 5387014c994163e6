-- The faults tell of the bytes tested, each with the one after it.
use Prim.Native.Nat.{◌≤◌, ◌+◌}
use mathlib.Core.Path.{◌≡◌}
use lib.ListN.{length, drop}
use Rattle.netlist.specs.Read.{bytes_allowed}
use Rattle.text.proofs.AllowedBytes.{Testing}
use Rattle.text.proofs.allowed.all_before.Given as goal

abbrev pub invariant-loop-b : goal.invariant-loop-b
invariant-loop-b l =
    (l.b-iterator.a.rest.now ≡ drop (length l.yielded) l.text)
    × (l.b-iterator.b.rest.now ≡ drop (length l.yielded + 1) l.text)
    × (length l.yielded + 1 ≤ length l.text) × Testing bytes_allowed l.text l.faults (length l.yielded)
