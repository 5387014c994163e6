-- Marks of wires, as far as the search has come.
use Rattle.std.specs.Prelude.{ℕ, ◌<◌, Bool, not, List, ◌≡◌, ◌⊎◌, get_or}
use Rattle.netlist.specs.declared.Gate.{Gate}
use Rattle.netlist.specs.Eval.{bit}
use Rattle.causes.specs.Causes.{verdict}

-- two counts agree in all settings below S
abbrev pub Same : (ℕ → ℕ) → (ℕ → ℕ) → ℕ → Type 0
Same f g S = (s : ℕ) → s < S → f s ≡ g s

-- a mark as it was where they agree in sixteen settings, otherwise 1
abbrev pub Joined : ℕ → ℕ → (ℕ → ℕ) → (ℕ → ℕ) → Type 0
Joined m m' f g = ((m' ≡ m) × Same f g 16) ⊎ ((m' ≡ 1) × (Same f g 16 → ⊥))

-- a mark is 0 where they agree in all settings below S, otherwise 1
abbrev pub MarkOf : ℕ → (ℕ → ℕ) → (ℕ → ℕ) → ℕ → Type 0
MarkOf m f g S = ((m ≡ 0) × Same f g S) ⊎ ((m ≡ 1) × (Same f g S → ⊥))

-- the marks of the wires below W, by a test of those that do not leak
abbrev pub Tested : (ℕ → Bool) → ℕ → List ℕ → Type 0
Tested u W marks = (w : ℕ) → w < W → get_or marks w 0 ≡ bit (not (u w))

-- their verdicts, of some gates
abbrev pub Told : (ℕ → Bool) → List Gate → ℕ → List ℕ → Type 0
Told u gs W marks = (w : ℕ) → w < W → get_or marks w 0 ≡ verdict u gs w
