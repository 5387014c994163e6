-- From a call's outcome to the promise of sixty-four runs.
use Rattle.std.specs.Prelude.{Ok, Result}
use Prim.Native.Nat.{ℕ, ◌≤◌, ◌<◌}
use mathlib.Core.Path.{◌≡◌, refl, sym, ap, ◌∙◌}
use mathlib.Core.Bool.{Bool, true, false}
use mathlib.Core.List.{List, [], ◌∷◌, map}
use native.Mathlib.Omega.{arith}
use lib.Dec.{eqb, leb}
use borrow.Author.Tests.{eqb-true}
use lib.ListN.{length, take, length-map, length-drop, length-append, length-replicate}
use Rattle.netlist.specs.declared.Refusal.{Refusal}
use Rattle.netlist.specs.declared.Sizes.{Sizes}
use Rattle.netlist.specs.Netlist.{Netlist, input_bits, output_bits, masked_limits}
use Rattle.netlist.specs.Outcome.{Outcome, done, ask, and_then}
use Rattle.netlist.specs.Read.{read_netlist, WellFormed}
use Rattle.netlist.specs.Eval.{wire_bits, outputs_of, bit}
use Rattle.netlist.specs.Services.{tables_long, bools, output_list, outcome_of, Answers, Cleared}
use Rattle.netlist.proofs.Tests.{clash}
use Rattle.netlist.proofs.Accepted.{accepted}
use Rattle.netlist.proofs.Models.{length-run_gates}
use Rattle.evaluate.specs.Lane.{lane, lanes, output_words}
use Rattle.evaluate.proofs.Words.{lanes-output_words}
use Rattle.run.specs.Entries.{Gives, list_call}
use Rattle.run.proofs.Delivered.{gives-answers}
use Rattle.run.specs.SixtyFourPromise.{run64_outcome, run64_call, call, bits_of, Promise}

-- bits as numbers, and back
bools-bits : (bs : List Bool) → bools (map bit bs) ≡ bs
bools-bits [] = refl
bools-bits (true ∷ bs) = ap (λ (l : List Bool). true ∷ l) (bools-bits bs)
bools-bits (false ∷ bs) = ap (λ (l : List Bool). false ∷ l) (bools-bits bs)

-- a run has one output for each output bit
length-outputs : (N : Netlist) (ins : List Bool) → WellFormed N → length ins ≡ input_bits N → length (outputs_of N ins)
    ≡ output_bits N
unfolding wire_bits outputs_of
length-outputs N ins F e =
    let f : input_bits N ≤ N.wires = F.inputs_fit in
    let g : output_bits N ≤ N.wires = F.outputs_fit in
    simp (length-drop, length-run_gates, length-append, length-replicate) (omega arith)

module _ (s : Sizes) (text list out o r g w : List ℕ) where
  -- a result is the output words of a list with a word for each input bit
  call-words : {x : List ℕ} {a : Result ℕ Refusal} → Answers (call s text list out o r g w) out x a
      → (n : ℕ) (N : Netlist) → a ≡ Ok n → read_netlist (masked_limits s) text ≡ done N
      → (length list ≡ input_bits N) × (take n x ≡ output_words N list)
  unfolding run64_call
  call-words {x} {a} h n N p e =
      let b = tables_long (masked_limits s) (length o ∷ length r ∷ length g ∷ length w ∷ []) in
      let d : done (take n x) ≡ ask 1 b (run64_outcome list (length out) N) =
      ap (outcome_of x) (sym p) ∙ h.outcome ∙ ap (λ (u : Outcome Netlist). ask 1 b
      (and_then u (run64_outcome list (length out)))) e in
      asked b (eqb (length list) (input_bits N)) (leb (length (output_words N list)) (length out)) refl d
    where
      asked : (b c d : Bool) → eqb (length list) (input_bits N) ≡ c → done (take n x)
          ≡ ask 1 b (ask 11 c (ask 14 d (done (output_words N list))))
          → (length list ≡ input_bits N) × (take n x ≡ output_words N list)
      asked true true true k s = (eqb-true (length list) (input_bits N) k, cc)
      asked true true false k s = clash (cc)
      asked true false d k s = clash (cc)
      asked false c d k s = clash (cc)

  -- so each lane is a run
  call-lanes : {x : List ℕ} {a : Result ℕ Refusal} → Answers (call s text list out o r g w) out x a
      → (n : ℕ) (N : Netlist) → a ≡ Ok n → read_netlist (masked_limits s) text ≡ done N → (j : ℕ) → j < 64
      → bits_of j (take n x) ≡ output_list N (bits_of j list)
  call-lanes h n N p e j l =
      let k = call-words h n N p e in
      let F = (accepted (masked_limits s) text N e).formed in
      ap (bits_of j) k.1 ∙ ap (map bit) (lanes-output_words N list j l
      (length-outputs N (lanes j list) F (length-map list (lane j) ∙ k.0))
      ∙ ap (outputs_of N) (sym (bools-bits (lanes j list))))

  call-answers : {x : List ℕ} {a : Result ℕ Refusal} → Gives
      (list_call (λ list n. eqb (length list) n) output_words s text list out o r g w) out x a
      → Answers (call s text list out o r g w) out x a
  unfolding run64_call
  call-answers h = gives-answers (call s text list out o r g w) h

  pub promise : {x o' r' g' w' : List ℕ} {a : Result ℕ Refusal}
      → Gives (list_call (λ list n. eqb (length list) n) output_words s text list out o r g w) out x a
      → Cleared o o' × Cleared r r' × Cleared g g' × Cleared w w' → Promise s text list out x o o' r r' g g' w w' a
  promise h k = record {
    answers = call-answers h;
    lane = call-lanes (call-answers h);
    operands = k.0;
    results = k.1;
    marks = k.2;
    words = k.3;
  }
