-- Questions 10, 11, 21 and 12 of a netlist, in order.
use Prim.Native.Nat.{ℕ, ◌-◌}
use mathlib.Core.Path.{◌≡◌, sym, ap, ◌∙◌}
use mathlib.Core.Bool.{Bool, true}
use mathlib.Core.List.{List}
use lib.ListN.{length}
use Rattle.netlist.specs.Lists.{sum}
use Rattle.netlist.specs.Netlist.{Netlist}
use Rattle.netlist.specs.Outcome.{Outcome, done, ask}
use Rattle.masking.specs.Mask.{is_input_code}
use Rattle.netlist.specs.Services.{list_good}
use Rattle.masking.specs.Calls.{ends_in_masks}
use Rattle.check_pairs.specs.Call.{BothAnswers, pairs_good}
use Rattle.questions.specs.Asked.{codes_asked}
use Rattle.questions.proofs.Asking.{asked-passed}
use Rattle.check_wide.specs.Wide.{WideLeak, few_reach, wide_answers, wide_outcome}

module _ (N : Netlist) (codes ws vs : List ℕ) (widths : vs ≡ N.inputs) where
  -- what follows questions 10 and 11
  abbrev rest : Outcome (BothAnswers WideLeak)
  rest = ask 21 (pairs_good N.wires ws) (ask 12 (few_reach N (length codes) ws) (done (wide_answers N codes ws)))

  outcome-is : ask 10 (ends_in_masks vs) (ask 11 (list_good is_input_code (sum vs - 2) codes) rest)
      ≡ wide_outcome codes ws N
  outcome-is = ap (λ (us : List ℕ). ask 10 (ends_in_masks us)
      (ask 11 (list_good is_input_code (sum us - 2) codes) rest)) widths

  module _ (asked : done tt ≡ codes_asked vs codes) where
    passed : rest ≡ wide_outcome codes ws N
    passed =
        let p = asked-passed vs codes (sym asked) in
        sym (ap (λ (b : Bool). ask 10 b (ask 11 (list_good is_input_code (sum vs - 2) codes) rest)) p.0
        ∙ ap (λ (b : Bool). ask 11 b rest) p.1)
        ∙ outcome-is

    pub answered : {W : ℕ} {a : Outcome (BothAnswers WideLeak)} → N.wires ≡ W → pairs_good W ws ≡ true
        → a ≡ ask 12 (few_reach N (length codes) ws) (done (wide_answers N codes ws)) → a ≡ wide_outcome codes ws N
    answered e b p =
        p ∙ sym (ap (λ (x : Bool). ask 21 x (ask 12 (few_reach N (length codes) ws) (done (wide_answers N codes ws))))
        (ap (λ (k : ℕ). pairs_good k ws) e ∙ b)) ∙ passed
