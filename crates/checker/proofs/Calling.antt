-- From a netlist that was read, and judged, to Check's promise.
use Prim.Native.Nat.{ℕ, ◌-◌}
use Rattle.std.specs.Prelude as std
use Rattle.std.specs.Prelude.{Result, Ok, Err}
use mathlib.Core.Path.{◌≡◌, sym, ap, ◌∙◌}
use mathlib.Core.Bool.{true}
use mathlib.Core.List.{List, [], ◌∷◌}
use mathlib.Core.Option.{Option, none, some}
use lib.Dec.{leb}
use lib.ListN.{length}
use Rattle.netlist.specs.declared.Refusal.{Refusal}
use Rattle.netlist.specs.declared.Sizes.{Sizes}
use Rattle.netlist.specs.Netlist.{Netlist, input_bits, masked_limits}
use Rattle.netlist.specs.Outcome.{Outcome, refused, done, ask, and_then}
use Rattle.netlist.specs.Read.{read_netlist}
use Rattle.masking.specs.Mask.{is_input_code}
use Rattle.masking.specs.Leak.{Found, leak}
use Rattle.netlist.specs.Services.{tables_long, list_good}
use Rattle.masking.specs.Calls.{ends_in_masks, max_checked, check_outcome, check_call}
use Rattle.netlist.proofs.Answering.{call-refused, call-goes-on}
use Rattle.netlist.proofs.Questions.{done-same, ask-done}
use Rattle.masking.proofs.LeakSearch.{none-clean, found-lowest}
use Rattle.reader.specs.declared.netlist_tables.NetlistTables.{NetlistTables}
use Rattle.reader.specs.Tables.{HoldsNetlist}
use Rattle.reader.specs.Taken.{TakenOf}
use Rattle.leak_search.specs.declared.difference.Leak.{Leak}
use Rattle.leak_search.specs.Search.{found}
use Rattle.checker.specs.Verdict.{outcome_of, Judged}
use Rattle.checker.specs.Promise.{call}

-- questions 10 to 12 are passed: the answer is that of the search
pub outcome-leak : (N : Netlist) (codes : List ℕ) (f : Option Found) → check_outcome codes N ≡ done f → leak N codes ≡ f
outcome-leak N codes f e =
    let ten = (ask-done 10 (ends_in_masks N.inputs) _ f e).1 in
    let eleven = (ask-done 11 (list_good is_input_code (input_bits N - 2) codes) _ f ten).1 in
    let twelve = (ask-done 12 (leb (length codes) max_checked) _ f eleven).1 in
    done-same (leak N codes) f twelve

module _ (s : Sizes) (text codes o r g w b : List ℕ) where
  abbrev lengths : List ℕ
  lengths = length o ∷ length r ∷ length g ∷ length w ∷ length b ∷ []

  -- questions 1 to 9, and then 10 to 12
  pub call-not : {q : ℕ} → ask 1 (tables_long (masked_limits s) lengths) (read_netlist (masked_limits s) text)
      ≡ refused q → refused q ≡ call s text codes o r g w b
  unfolding check_call
  call-not p = sym (call-refused (tables_long (masked_limits s) lengths) (read_netlist (masked_limits s) text)
      (check_outcome codes) p)

  pub call-read : {n : NetlistTables} {a : Outcome (Option Found)}
      → (tables_long (masked_limits s) lengths ≡ true) × TakenOf (masked_limits s) text n
      → ((N : Netlist) → HoldsNetlist n N → a ≡ check_outcome codes N)
      → a ≡ call s text codes o r g w b
  unfolding check_call
  call-read k f =
      f k.1.is k.1.holds
      ∙ sym (call-goes-on (tables_long (masked_limits s) lengths) (read_netlist (masked_limits s) text)
      (check_outcome codes) k.0 k.1.read)

  -- an answer that is no refusal is that of the search
  answer-leak : (N : Netlist) (f : Option Found) → read_netlist (masked_limits s) text ≡ done N → done f
      ≡ call s text codes o r g w b → leak N codes ≡ f
  unfolding check_call
  answer-leak N f read e =
      let one = (ask-done 1 (tables_long (masked_limits s) lengths)
      (and_then (read_netlist (masked_limits s) text) (check_outcome codes)) f (sym e)).1 in
      outcome-leak N codes f (sym (ap (λ (u : Outcome Netlist). and_then u (check_outcome codes)) read) ∙ one)

  -- the answer follows the equal-count rule
  pub call-judged : (a : Result (std.Option (Leak ℕ)) Refusal) → outcome_of a ≡ call s text codes o r g w b
      → (N : Netlist)
      → read_netlist (masked_limits s) text ≡ done N → Judged N codes a
  call-judged (Ok std.None) e N read = none-clean N codes (answer-leak N none read e)
  call-judged (Ok (std.Some p)) e N read =
      let f = found-lowest N codes (found p) (answer-leak N (some (found p)) read e) in
      (f, λ clean. f.breaks (clean p.wire f.wire))
  call-judged (Err q) e N read = tt
