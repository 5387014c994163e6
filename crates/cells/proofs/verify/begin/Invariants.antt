-- What is known so far is right where the inputs are set.
use Rattle.std.proofs.Common.{ℕ, Bool}
use Rattle.cells.specs.Computes.{AreSet}
use Rattle.cells.specs.Verify.{AllRight}
use Rattle.cells.proofs.verify.begin.Given as goal

abbrev pub invariant-loop-place : goal.invariant-loop-place
invariant-loop-place l = (u : ℕ → Bool) (j : ℕ) → AreSet u j l.inputs → AllRight u j l.known.items
