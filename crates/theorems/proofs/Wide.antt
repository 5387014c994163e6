-- Where there are at most twelve codes, at most twelve inputs reach each wire and each pair, so both checks answer
-- alike.
use Prim.Native.Nat.{ℕ, zero, suc, ◌+◌, ◌-◌, ◌≤◌}
use mathlib.Core.Path.{◌≡◌, refl, sym, ap, ap₂, ◌∙◌}
use mathlib.Core.Bool.{Bool, true, false, ◌&&◌, ◌||◌}
use mathlib.Core.List.{List, [], ◌∷◌}
use native.Mathlib.Omega.{arith}
use lib.Dec.{leb}
use lib.ListN.{length}
use borrow.Author.Tests.{le-leb}
use Rattle.netlist.specs.declared.Limits.{Limits}
use Rattle.netlist.specs.Netlist.{Netlist, input_bits}
use Rattle.netlist.specs.Outcome.{Outcome, refused, done, ask, and_then}
use Rattle.netlist.specs.Read.{read_netlist}
use Rattle.netlist.specs.Services.{tables_long, list_good}
use Rattle.masking.specs.Mask.{is_input_code}
use Rattle.masking.specs.Leak.{Found, leak}
use Rattle.masking.specs.Calls.{ends_in_masks, max_checked}
use Rattle.check_pairs.specs.Pairs.{all_below, clean_pair, first_bad}
use Rattle.check_pairs.specs.Call.{BothAnswers, pairs_good, pairs_outcome, pairs_call}
use Rattle.check_wide.specs.Reach.{size, marks, reaches, reach, reach_pair}
use Rattle.check_wide.specs.Wide.{WideLeak, few, every_pair, few_reach, wide_outcome, wide_answers, wide_call}
use Rattle.theorems.specs.Wide.{both_listed, WideAgrees}

size-marks : (t : ℕ → Bool) (i k : ℕ) → size (marks t i k) ≤ k
size-marks t i zero = omega arith
size-marks t i (suc k) = go (t i) (size-marks t (i + 1) k)
  where
    go : (b : Bool) → size (marks t (i + 1) k) ≤ k → size (b ∷ marks t (i + 1) k) ≤ suc k
    go true h = omega arith
    go false h = omega arith

few-marks : (t : ℕ → Bool) (k : ℕ) → k ≤ max_checked → few (marks t 0 k) ≡ true
few-marks t k h = let l = size-marks t 0 k in le-leb (size (marks t 0 k)) max_checked (omega arith)

all-few : (t : ℕ → Bool) → ((w : ℕ) → t w ≡ true) → (k : ℕ) → all_below t k ≡ true
all-few t h zero = refl
all-few t h (suc k) = ap₂ ◌&&◌ (all-few t h k) (h k)

pairs-few : (t : ℕ → ℕ → Bool) → ((u v : ℕ) → t u v ≡ true) → (ws : List ℕ) → every_pair t ws ≡ true
pairs-few t h [] = refl
pairs-few t h (u ∷ []) = refl
pairs-few t h (u ∷ (v ∷ ws)) = ap₂ ◌&&◌ (h u v) (pairs-few t h ws)

reached-by-few : (N : Netlist) (n : ℕ) (ws : List ℕ) → n ≤ max_checked → few_reach N n ws ≡ true
reached-by-few N n ws h =
    ap₂ ◌&&◌ (all-few (λ w. few (reach N n w)) (λ w. few-marks (λ i. reaches N i w) n h) N.wires)
    (pairs-few (λ u v. few (reach_pair N n u v)) (λ u v. few-marks (λ i. reaches N i u || reaches N i v) n h) ws)

module _ (codes ws : List ℕ) (h : length codes ≤ max_checked) where
  onward : BothAnswers Found → Outcome (BothAnswers WideLeak)
  onward B = done (both_listed (length codes) B)

  netlist-alike : (N : Netlist) → wide_outcome codes ws N ≡ and_then (pairs_outcome codes ws N) onward
  unfolding onward
  netlist-alike N =
      rw (reached-by-few N (length codes) ws h, le-leb (length codes) max_checked h)
      (go (ends_in_masks N.inputs) (list_good is_input_code (input_bits N - 2) codes) (pairs_good N.wires ws))
    where
      go : (a b c : Bool) → ask 10 a (ask 11 b (ask 21 c (done (wide_answers N codes ws))))
          ≡ and_then (and_then (ask 10 a (ask 11 b (done (leak N codes)))) λ l. ask 21 c
          (done (record { leak = l; pairs = first_bad (clean_pair N codes) ws }))) onward
      go true true true = refl
      go true true false = refl
      go true false c = refl
      go false b c = refl

  -- a call of each
  call-alike : (b : Bool) (o : Outcome Netlist) → ask 1 b (and_then o (wide_outcome codes ws))
      ≡ and_then (ask 1 b (and_then o (pairs_outcome codes ws))) onward
  call-alike true (refused q) = refl
  call-alike true (done N) = netlist-alike N
  call-alike false o = refl

pub wide-agrees : WideAgrees
unfolding wide_call pairs_call onward
wide-agrees L wide_tables pair_tables text codes pairs h e =
    ap (λ (b : Bool). ask 1 b (and_then (read_netlist L text) (wide_outcome codes pairs))) e
    ∙ call-alike codes pairs h (tables_long L pair_tables) (read_netlist L text)
