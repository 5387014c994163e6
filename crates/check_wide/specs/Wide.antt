-- The outcome of a call of Check in its second form, for netlists with many inputs (docs/RULES.md, Many inputs).
use Rattle.std.specs.Prelude.{ℕ, ◌-◌, Bool, true, ◌&&◌, List, [], ◌∷◌, leb, length}
use Rattle.std.proofs.Math.Option.{Option, none, some}
use Rattle.netlist.specs.declared.Limits.{Limits}
use Rattle.netlist.specs.Netlist.{Netlist, input_bits}
use Rattle.netlist.specs.Outcome.{Outcome, done, ask, and_then}
use Rattle.masking.specs.Mask.{is_input_code}
use Rattle.netlist.specs.Read.{read_netlist}
use Rattle.masking.specs.Leak.{setting, Found, leak}
use Rattle.netlist.specs.Services.{tables_long, list_good}
use Rattle.masking.specs.Calls.{ends_in_masks, max_checked}
use Rattle.check_pairs.specs.Pairs.{all_below, clean_pair, first_bad}
use Rattle.check_pairs.specs.Call.{BothAnswers, pairs_good}
use Rattle.check_wide.specs.Reach.{size, places, reach, reach_pair}

-- a leak with its setting as the rising list of the input bits that are one
pub record WideLeak : Type 0 where
  pub wire : ℕ
  pub ones : List ℕ
  pub base : ℕ
  pub own : ℕ

abbrev pub listed : ℕ → Option Found → Option WideLeak
listed n none = none
listed n (some f) = some (record { wire = f.wire; ones = places 0 (setting n f.at); base = f.base; own = f.own })

-- at most twelve inputs
abbrev pub few : List Bool → Bool
few ks = leb (size ks) max_checked

-- a test of every two of a list
abbrev pub every_pair : (ℕ → ℕ → Bool) → List ℕ → Bool
every_pair t [] = true
every_pair t (u ∷ []) = true
every_pair t (u ∷ (v ∷ ws)) = t u v && every_pair t ws

-- question 12 of the wide form: at most twelve of n inputs reach each wire and each listed pair
abbrev pub few_reach : Netlist → ℕ → List ℕ → Bool
few_reach N n ws = all_below (λ w. few (reach N n w)) N.wires && every_pair (λ u v. few (reach_pair N n u v)) ws

-- what Check with pairs finds, over all settings of all inputs, where its question 12 is not put
abbrev pub wide_answers : Netlist → List ℕ → List ℕ → BothAnswers WideLeak
wide_answers N codes ws = record {
  leak = listed (length codes) (leak N codes);
  pairs = first_bad (clean_pair N codes)
      ws;
}

-- questions 10, 11, 21 and 12, then both answers
abbrev pub wide_outcome : List ℕ → List ℕ → Netlist → Outcome (BothAnswers WideLeak)
wide_outcome codes ws N =
    ask 10 (ends_in_masks N.inputs)
    (ask 11 (list_good is_input_code (input_bits N - 2) codes)
    (ask 21 (pairs_good N.wires ws)
    (ask 12 (few_reach N (length codes) ws)
    (done (wide_answers N codes ws)))))

-- questions 1 to 11, 21 and 12
unfoldable pub wide_call : Limits → List ℕ → List ℕ → List ℕ → List ℕ → Outcome (BothAnswers WideLeak)
wide_call L tables text codes ws = ask 1 (tables_long L tables) (and_then (read_netlist L text) (wide_outcome codes ws))
