-- What the verdicts on wires say.
use Rattle.std.specs.Prelude.{ℕ, ◌<◌, List, ◌∷◌, ◌≡◌, ◌≢◌, get_or}
use Rattle.netlist.specs.declared.Gate.{Gate}
use Rattle.netlist.specs.declared.Gate.TheVariants.{Xor, And, Inv, Eqw, Eq}
use Rattle.netlist.specs.Netlist.{Netlist, result}
use Rattle.masking.specs.Leak.{EqualCounts}

-- a gate of a list
pub data Among (g : Gate) : List Gate → Type 0 where
  first : {gs : List Gate} → Among g (g ∷ gs)
  later : {h : Gate} {gs : List Gate} → Among g gs → Among g (h ∷ gs)

-- what holds of every wire that a gate reads
abbrev pub OfOperands : (ℕ → Type 0) → Gate → Type 0
OfOperands P (Xor a b c) = P a × P b
OfOperands P (And a b c) = P a × P b
OfOperands P (Inv a c) = P a
OfOperands P (Eqw a c) = P a
OfOperands P (Eq v c) = Unit

-- a wire that does not have equal counts, given by a gate whose operands all have them
pub record Cause (N : Netlist) (codes : List ℕ) (w : ℕ) : Type 0 where
  pub gate : Gate
  pub among : Among gate N.gates
  pub gives : result gate ≡ w
  pub operands : OfOperands (EqualCounts N codes) gate
  pub leaks : EqualCounts N codes w → ⊥

-- a verdict on each wire: 0 has equal counts, another number has not, and 2 is a cause
pub record WiresJudged (N : Netlist) (codes list : List ℕ) : Type 0 where
  pub clean : (w : ℕ) → w < N.wires → get_or list w 0 ≡ 0 → EqualCounts N codes w
  pub leaks : (w : ℕ) → w < N.wires → get_or list w 0 ≢ 0 → EqualCounts N codes w → ⊥
  pub causes : (w : ℕ) → w < N.wires → get_or list w 0 ≡ 2 → Cause N codes w
