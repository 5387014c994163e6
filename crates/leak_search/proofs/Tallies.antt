-- Counts that a loop stores in nibbles, one wire a turn.
use mathlib.Core.Path.{◌≡◌, sym, ap, ap₂, ◌∙◌}
use mathlib.Core.List.{List}
use Prim.Native.Nat.{ℕ, ◌+◌, ◌*◌, ◌≤◌, ◌<◌}
use native.Mathlib.Omega.{arith}
use lib.Dec.{ltb}
use lib.ListN.{length, get_or, get_or-eq_default}
use borrow.Author.Tests.{ltb-true, ltb-false}
use Rattle.netlist.specs.Eval.{bit}
use Rattle.netlist.proofs.Tests.{on_bool}
use Rattle.evaluate.specs.Lane.{lane}
use Rattle.evaluate.proofs.Lanes.{lane-zero}
use Rattle.leak_search.specs.Block.{ones, ones_of, nibbles_of, Agree}
use Rattle.leak_search.proofs.Nibbles.{no-nibble}

-- the nibbles of wires below w hold the counts f, and the other words are as they were
pub record Tallied (f : ℕ → ℕ → ℕ) (base₀ base : List ℕ) (w : ℕ) : Type 0 where
  pub long : length base ≡ length base₀
  pub done : Agree (nibbles_of base) f w 16
  pub rest : (v : ℕ) → w ≤ v → get_or base v 0 ≡ get_or base₀ v 0

-- no wire, no ones
ones_none : (s : ℕ) → ones 0 s ≡ 0
ones_none s =
    let z : (j : ℕ) → bit (lane j 0) ≡ 0 = λ j. ap bit (lane-zero j) in
    ap₂ ◌+◌ (ap₂ ◌+◌ (ap₂ ◌+◌ (z (4 * s)) (z (4 * s + 1))) (z (4 * s + 2))) (z (4 * s + 3))

pub ones-past : (words : List ℕ) (v s : ℕ) → length words ≤ v → ones_of words v s ≡ 0
ones-past words v s l = ap (λ (x : ℕ). ones x s) (get_or-eq_default words 0 l) ∙ ones_none s

-- the words of all wires are told one by one, and past them there are no ones
pub told-all : {f : ℕ → ℕ → ℕ} {W : ℕ} (base : List ℕ) → length base ≡ W → Agree (nibbles_of base) f W 16
    → ((v s : ℕ) → W ≤ v → f v s ≡ 0)
    → (v s : ℕ) → s < 16 → nibbles_of base v s ≡ f v s
told-all {f} {W} base long told past v s m =
    on_bool (ltb v W) (λ t. told v (ltb-true v W t) s m)
    (λ t.
    let k = ltb-false v W t in
    no-nibble s (get_or-eq_default base 0 {n = v} (omega arith)) ∙ sym (past v s k))

pub tallied-all : {f : ℕ → ℕ → ℕ} {base₀ base : List ℕ} {w : ℕ} → Tallied f base₀ base w → length base₀ ≤ w
    → ((v s : ℕ) → length base₀ ≤ v → f v s ≡ 0)
    → (v s : ℕ) → s < 16 → nibbles_of base v s ≡ f v s
tallied-all {base = base} r l past = told-all base r.long (λ v i. r.done v (omega arith)) past
