-- `certify_search::search::search` meets its contract.
use Prim.Native.Nat.{ℕ, ◌-◌}
use mathlib.Core.List.{List}
use lib.ListN.{length}
use Rattle.std.specs.Prelude.{Option}
use Rattle.netlist.specs.Netlist.{Netlist}
use Rattle.gates.specs.Gates.{HoldsGates}
use Rattle.leak_search.specs.declared.difference.Leak.{Leak}
use Rattle.certify.specs.Pass.{Masked}
use Rattle.certify.specs.Search.{Searched, Searches}
use Rattle.certify.proofs.search.search.Given as goal

-- what the rounds left find is what all find
abbrev pub invariant-loop : goal.invariant-loop
invariant-loop l =
    (n o : ℕ) (N : Netlist) → HoldsGates l.gates (length l.initial.words) n o N → Masked N l.codes
    → (found : Option (Leak ℕ)) (ws : List ℕ)
    → Searched N l.codes (64 - l.counter) l.seed found ws → Searches N l.codes found ws
