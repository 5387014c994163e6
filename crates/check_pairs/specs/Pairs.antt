-- Values that follow each other in a register: pairs of wires (docs/RULES.md, Pairs).
use Rattle.std.specs.Prelude.{ℕ, zero, suc, ◌+◌, ◌*◌, ◌^◌, ◌<◌, Bool, true, false, not, ◌&&◌, List, [], ◌∷◌, ◌≡◌, eqb}
use Rattle.std.specs.Prelude.{length, get_or}
use Rattle.std.proofs.Math.Option.{Option, none, some}
use Rattle.netlist.specs.Netlist.{Netlist}
use Rattle.netlist.specs.Eval.{differs, wire_bits, bits_at}
use Rattle.masking.specs.Leak.{masked, count_of, public_only, SamePublic, setting}

-- two bits show the value pair p, q
abbrev pub shows : Bool → Bool → Bool → Bool → Bool
shows p q a b = not (differs p a) && not (differs q b)

-- how many of the four mask settings show p on wire u and q on wire v, for an input setting
unfoldable pub pair_count : Netlist → List ℕ → ℕ → ℕ → Bool → Bool → List Bool → ℕ
pair_count N codes u v p q x =
    count_of (λ m0 m1. shows p q (bits_at (wire_bits N (masked m0 m1 codes x)) u)
    (bits_at (wire_bits N (masked m0 m1 codes x)) v))

-- the rule that a pair meets: each of the four value pairs is shown by equally many mask settings for all input
-- settings that agree in their public bits
abbrev pub CleanPair : Netlist → List ℕ → ℕ → ℕ → Type 0
CleanPair N codes u v =
    (p q : Bool) (x y : List Bool) → SamePublic codes x y → pair_count N codes u v p q x ≡ pair_count N codes u v p q y

-- ---- the test of a pair, over numbered settings

-- a test of each of the four value pairs
abbrev pub each_value : (Bool → Bool → Bool) → Bool
each_value t = (t false false && t true false) && (t false true && t true true)

-- each is shown equally often in two settings
abbrev pub same_shown : Netlist → List ℕ → ℕ → ℕ → List Bool → List Bool → Bool
same_shown N codes u v x y = each_value λ p q. eqb (pair_count N codes u v p q x) (pair_count N codes u v p q y)

-- in setting number s and in its base, which has the same public bits and zero secrets
abbrev pub same_as_base : Netlist → List ℕ → ℕ → ℕ → ℕ → Bool
same_as_base N codes u v s = same_shown N codes u v (public_only codes (setting (length codes) s))
    (setting (length codes) s)

-- a test of every number below k
abbrev pub all_below : (ℕ → Bool) → ℕ → Bool
all_below t zero = true
all_below t (suc k) = all_below t k && t k

unfoldable pub clean_pair : Netlist → List ℕ → ℕ → ℕ → Bool
clean_pair N codes u v = all_below (same_as_base N codes u v) (2 ^ length codes)

-- ---- lists of pairs: pair j is entries 2j and 2j + 1

-- the answer on a list of pairs, given whether its first is clean and the answer on the others
abbrev pub onward : Bool → Option ℕ → Option ℕ
onward true none = none
onward true (some k) = some (suc k)
onward false o = some 0

-- how many pairs stand before the first bad one; none where all are clean
abbrev pub first_bad : (ℕ → ℕ → Bool) → List ℕ → Option ℕ
first_bad clean [] = none
first_bad clean (u ∷ []) = none
first_bad clean (u ∷ (v ∷ ws)) = onward (clean u v) (first_bad clean ws)

-- pair j of a list meets the rule
abbrev pub CleanAt : Netlist → List ℕ → List ℕ → ℕ → Type 0
CleanAt N codes ws j = CleanPair N codes (get_or ws (2 * j) 0) (get_or ws (2 * j + 1) 0)

-- what the answer some k says: the first k pairs meet the rule, and the next does not
pub record BadAfter (N : Netlist) (codes ws : List ℕ) (k : ℕ) : Type 0 where
  pub inside : 2 * k + 1 < length ws
  pub before : (j : ℕ) → j < k → CleanAt N codes ws j
  pub bad : CleanAt N codes ws k → ⊥

-- what the answer none says: all meet it
abbrev pub PairsJudged : Netlist → List ℕ → List ℕ → Option ℕ → Type 0
PairsJudged N codes ws none = (j : ℕ) → 2 * j + 1 < length ws → CleanAt N codes ws j
PairsJudged N codes ws (some k) = BadAfter N codes ws k

-- ---- the three counts that decide

-- how many of the four mask settings make both wires one
unfoldable pub both_count : Netlist → List ℕ → ℕ → ℕ → List Bool → ℕ
both_count N codes u v x = count_of (λ m0 m1. bits_at (wire_bits N (masked m0 m1 codes x)) u && bits_at
    (wire_bits N (masked m0 m1 codes x)) v)
