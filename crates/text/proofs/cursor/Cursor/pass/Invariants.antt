-- A scan over the bytes that pass: for each test that the closure answers.
use Prim.Native.Nat.{ℕ}
use mathlib.Core.Path.{◌≡◌}
use mathlib.Core.Bool.{Bool}
use Rattle.text.proofs.Scans.{Scanning}
use Rattle.text.proofs.cursor.Cursor.pass.Given as goal

abbrev pub invariant-loop-i : goal.invariant-loop-i
invariant-loop-i g l =
    (p : ℕ → Bool) → ((b : ℕ) (r : Bool) → goal.F-post g l.test b r → r ≡ p b) → Scanning p l.text l.fn.self.at l.i
