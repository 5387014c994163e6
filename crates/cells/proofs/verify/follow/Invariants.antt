-- What is known so far is right where what was known at first is, and the gates hold.
use Rattle.std.proofs.Common.{ℕ, ◌<◌, Bool}
use Rattle.cells.specs.Computes.{Holds}
use Rattle.cells.specs.Verify.{AllRight}
use Rattle.cells.proofs.verify.follow.Given as goal

abbrev pub invariant-loop-gate : goal.invariant-loop-gate
invariant-loop-gate l =
    (u : ℕ → Bool) (j : ℕ) → j < 64 → Holds u l.gates → AllRight u j l.fn.known.items → AllRight u j l.known.items
