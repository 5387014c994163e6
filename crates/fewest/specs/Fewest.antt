-- The first choice with the fewest changes, and the floor (docs/RULES.md, Fewest changes).
use Rattle.std.specs.Prelude.{ℕ, zero, suc, ◌+◌, ◌-◌, ◌≤◌, ◌<◌, min, Bool, false, cond, List, [], ◌∷◌, eqb, leb, ltb}
use Rattle.netlist.specs.declared.Gate.{Gate}
use Rattle.netlist.specs.declared.Gate.TheVariants.{Xor, And, Inv, Eqw, Eq}
use Rattle.netlist.specs.Netlist.{Netlist}
use Rattle.masking.specs.Mask.{Masked, mask_netlist}
use Rattle.netlist.specs.Eval.{bit}
use Rattle.fewest.specs.Choice.{Choice, choices, choice, chosen_source, chosen_inputs}
use Rattle.masking.specs.Changes.{mask_changes}

-- j is the first of the numbers below k at which f is least
pub record FirstLeast (f : ℕ → ℕ) (k j : ℕ) : Type 0 where
  pub below : j < k
  pub least : (i : ℕ) → i < k → f j ≤ f i
  pub first : (i : ℕ) → i < j → f j < f i

-- the first of the numbers 0 to k at which f is least
abbrev pub first_least : (ℕ → ℕ) → ℕ → ℕ
first_least f zero = 0
first_least f (suc k) = let b = first_least f k in cond (ltb (f (suc k)) (f b)) (suc k) b

-- the masked netlist and the changes under a choice
abbrev pub masked_under : Netlist → List ℕ → List ℕ → Choice → Masked
masked_under N codes wanted d = mask_netlist (chosen_source N d) (chosen_inputs codes d) wanted

abbrev pub changes_under : Netlist → List ℕ → List ℕ → Choice → ℕ
changes_under N codes wanted d = mask_changes (chosen_source N d) (chosen_inputs codes d) wanted

abbrev pub changes_at : Netlist → List ℕ → List ℕ → ℕ → ℕ
changes_at N codes wanted j = changes_under N codes wanted (choice N codes j)

-- the number of the choice that is given: as many are tried as the budget allows
abbrev pub given : Netlist → List ℕ → List ℕ → ℕ → ℕ
given N codes wanted budget = first_least (changes_at N codes wanted) (min budget (choices N codes) - 1)

-- whether a gate of two operands names one wire twice
abbrev pub twice : Gate → Bool
twice (Xor a b c) = eqb a b
twice (And a b c) = eqb a b
twice (Inv a c) = false
twice (Eqw a c) = false
twice (Eq v c) = false

abbrev pub twices : List Gate → ℕ
twices [] = 0
twices (g ∷ gs) = bit (twice g) + twices gs

-- the floor: the fewest found if all were tried, else the number of these gates
abbrev pub floor : Netlist → List ℕ → List ℕ → ℕ → ℕ
floor N codes wanted budget =
    cond (leb (choices N codes) budget) (changes_at N codes wanted (given N codes wanted budget)) (twices N.gates)
