-- What a run asks of its list and what it gives, over entries of any type: `admits` says which lists question 11 admits
-- for so many input bits, `outputs` what a netlist makes of such a list.
use Rattle.std.specs.Prelude.{ℕ, ◌≤◌, ◌≡◌, Result, Bool, true, List, [], ◌∷◌, leb, length, take}
use Rattle.std.proofs.lemmas.List.Edits.{sets}
use Rattle.netlist.specs.declared.Refusal.{Refusal}
use Rattle.netlist.specs.declared.Sizes.{Sizes}
use Rattle.netlist.specs.Netlist.{Netlist, input_bits, output_bits, masked_limits}
use Rattle.netlist.specs.Outcome.{Outcome, refused, done, ask, and_then}
use Rattle.netlist.specs.Read.{read_netlist}
use Rattle.netlist.specs.Services.{tables_long, stands_for}

module _ {A : Type 0} where
  -- what a call writes at the front of its result buffer
  abbrev pub front : Outcome (List A) → List A
  front (refused q) = []
  front (done result) = result

  -- the answer and the result buffer are those of a call's outcome, as `Answers` of netlist says of numbers
  pub record Gives (call : Outcome (List A)) (before after : List A) (a : Result ℕ Refusal) : Type 0 where
    pub answer : stands_for (λ n. n) a ≡ and_then call (λ result. done (length result))
    pub outcome : stands_for (λ n. take n after) a ≡ call
    pub buffer : after ≡ sets before 0 (front call)

  module _ (admits : List A → ℕ → Bool) (outputs : Netlist → List A → List A) where
    -- a list that is admitted has an entry for each input bit, and gives one for each output bit
    pub record EntryLaws : Type 0 where
      pub ins : (list : List A) (n : ℕ) → admits list n ≡ true → length list ≡ n
      pub outs : (N : Netlist) (list : List A) → admits list (input_bits N) ≡ true → input_bits N ≤ N.wires
          → output_bits N ≤ N.wires
          → length (outputs N list) ≡ output_bits N

    -- questions 11 and 14 of a netlist
    abbrev pub list_outcome : List A → ℕ → Netlist → Outcome (List A)
    list_outcome list room N = ask 11 (admits list (input_bits N))
        (ask 14 (leb (length (outputs N list)) room) (done (outputs N list)))

    -- questions 1 to 9, 11 and 14 of a call that is handed its sizes, a text, a list, a result buffer, and tables of
    -- operands, results, given wires and words
    abbrev pub list_call : Sizes → List ℕ → List A → List A → List ℕ → List ℕ → List ℕ → List ℕ → Outcome (List A)
    list_call s text list out o r g w =
        ask 1 (tables_long (masked_limits s) (length o ∷ length r ∷ length g ∷ length w ∷ []))
        (and_then (read_netlist (masked_limits s) text) (list_outcome list (length out)))
