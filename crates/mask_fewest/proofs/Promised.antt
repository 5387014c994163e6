-- From a source that was read to the promise.
use Rattle.std.specs.Prelude as std
use Rattle.std.specs.Prelude.{Err, Ok}
use Prim.Native.Nat.{ℕ, ◌≤◌, ◌<◌}
use mathlib.Core.Path.{◌≡◌, refl, sym, ap, ap₂, ◌∙◌}
use mathlib.Core.Bool.{Bool, true, false, ◌&&◌}
use mathlib.Core.List.{List, [], ◌∷◌, ◌++◌}
use native.Mathlib.Omega.{arith}
use lib.Dec.{T, eqb, leb→le}
use borrow.Author.Tests.{le-leb, lt-leb, eq-eqb}
use lib.ListN.{length, take}
use lib.Seq.{sets}
use Rattle.netlist.specs.declared.Sizes.{Sizes}
use Rattle.netlist.specs.declared.Refusal.{Refusal}
use Rattle.netlist.specs.declared.Refusal.TheVariants as Q
use Rattle.netlist.specs.Refusal.{number_of}
use Rattle.netlist.specs.Lists.{every}
use Rattle.netlist.specs.Netlist.{Netlist, input_bits, output_bits, source_limits}
use Rattle.netlist.specs.Outcome.{Outcome, refused, done, ask}
use Rattle.netlist.specs.Read.{read_netlist, WellFormed}
use Rattle.masking.specs.Mask.{is_input_code, is_wanted, mask_netlist}
use Rattle.netlist.specs.Services.{tables_long, list_good, holds, outcome_of, written}
use Rattle.netlist.specs.Table.{Tables}
use Rattle.netlist.proofs.Tests.{is_true, true-T, both, pair}
use Rattle.netlist.proofs.Questions.{done-same, and_then-done}
use Rattle.netlist.proofs.Answering.{answers-refused, take-sets, call-refused, call-goes-on}
use Rattle.reader.specs.declared.header.Header.{Header}
use Rattle.reader.specs.Whole.{ReadAt}
use Rattle.mask_rule.proofs.Made.{codes-length}
use Rattle.mask.specs.Whole.{Source as MaskSource}
use Rattle.mask.specs.Fronts.{Read}
use Rattle.mask.proofs.Promised.{read_of, source_of, masked-formed}
use Rattle.fewest.specs.Choice.{Choice, Takes, is_call_code, ways, choice, chosen_source, chosen_inputs}
use Rattle.fewest.specs.Fewest.{given as given_number}
use Rattle.fewest.specs.Call.{Result, Room as Rooms, result_of, deliver, fewest_outcome, fewest_call}
use Rattle.fewest.proofs.Chosen.{CallInputs, chosen-formed, chosen-inputs}
use Rattle.fewest.proofs.Floor.{given-takes}
use Rattle.fewest.proofs.Calls.{worth}
use Rattle.fewest.specs.declared.search.Tally.{Tally}
use Rattle.fewest.specs.Search.{Source}
use Rattle.mask_fewest.specs.Stages.{Chose, given, room, part, FewestAnswers}
use Rattle.mask_fewest.specs.Promise.{call, Gives}

-- ---- answers

pub fewest-as : {c d : Outcome Result} {out out' is is' es es' ts ts' : List ℕ} {a : std.Result ℕ Refusal} → c ≡ d
    → FewestAnswers c out out' is is' es es' ts ts' a
    → FewestAnswers d out out' is is' es es' ts ts' a
fewest-as p h = rw p at h

-- a refusal leaves all buffers as they were
pub fewest-refused : {c : Outcome Result} (out is es ts : List ℕ) {q : Refusal} → c ≡ refused (number_of q)
    → FewestAnswers c out out is is es es ts ts (Err q)
fewest-refused out is es ts p = record {
  text = answers-refused out (rw p);
  inputs = rw p refl;
  outputs
      = rw p refl;
  tally = rw p refl;
}

-- ---- questions 11, 13, 22 and 14

module _ {h : Header} {t : Tables} {is os : List ℕ} {N : Netlist} (a : Read h t h.gates is os N) (codes wanted : List ℕ)
    (budget : ℕ)
    (out in_codes out_codes tal : List ℕ) where
  codes-good : (b : Bool) → list_good is_call_code h.input_bits codes ≡ b → list_good is_call_code (input_bits N) codes
      ≡ b
  codes-good b e = ap (λ (n : ℕ). list_good is_call_code n codes) a.holds.ins ∙ e

  wanted-good : (b : Bool) → list_good is_wanted h.output_bits wanted ≡ b → list_good is_wanted (output_bits N) wanted
      ≡ b
  wanted-good b e = ap (λ (n : ℕ). list_good is_wanted n wanted) a.holds.outs ∙ e

  abbrev Answered : Refusal → Type 0
  Answered q = FewestAnswers (fewest_outcome codes wanted budget (room out in_codes out_codes tal) N) out out in_codes
      in_codes out_codes out_codes tal tal (Err q)

  module _ (p : list_good is_call_code h.input_bits codes ≡ true) (q : list_good is_wanted h.output_bits wanted ≡ true)
    where
      lengths : length codes ≡ h.input_bits
      lengths = codes-length is_call_code h.input_bits codes p

      pub wanted-length : length wanted ≡ h.output_bits
      wanted-length = codes-length is_wanted h.output_bits wanted q

      -- the netlist with codes for its inputs and its outputs
      pub source-read : Source t h.gates codes wanted h.wires N
      source-read = record {
        formed = a.formed;
        holds = record {
          gates = a.holds.gates;
          wires = a.holds.wires;
          ins = a.holds.ins ∙ sym lengths;
          outs
              = a.holds.outs ∙ sym wanted-length;
        };
      }

      inputs-good : CallInputs N codes wanted
      inputs-good =
          let c = both (eqb (length codes) h.input_bits) (every is_call_code codes) (true-T _ p) in
          let v = both (eqb (length wanted) h.output_bits) (every is_wanted wanted) (true-T _ q) in
          record {
            source = a.formed;
            codes_length = lengths ∙ sym a.holds.ins;
            codes_good = c.1;
            wanted_length = wanted-length ∙ sym a.holds.outs;
            wanted_good = v.1;
          }

      module _ (one : 1 ≤ budget) where
        abbrev d : Choice
        d = choice N codes (given_number N codes wanted budget)

        its-number : length codes ≡ input_bits N
        its-number = lengths ∙ sym a.holds.ins

        taken : Takes (ways codes N.gates) (choice N codes (given_number N codes wanted budget))
        taken = given-takes N codes wanted its-number budget one

        abbrev its-result : Result
        its-result = result_of N codes wanted budget d

        accepted : fewest_outcome codes wanted budget (room out in_codes out_codes tal) N
            ≡ deliver (room out in_codes out_codes tal) its-result
        accepted = rw (codes-good true p, wanted-good true q, le-leb 1 budget one) refl

        -- a buffer is too short for the input codes
        chosen-length : length (chosen_inputs codes d) ≡ length codes
        chosen-length = Rattle.fewest.proofs.Chosen.length-chosen_codes d 0 codes

        false-one : (x y z v : Bool) → y ≡ false → x && y && z && v ≡ false
        false-one true y z v e = rw e refl
        false-one false y z v e = refl

        pub fewest-14-inputs : length in_codes < length codes → Answered Q.Room
        fewest-14-inputs k =
            let l = chosen-length in
            let b : holds (length in_codes) (chosen_inputs codes d) ≡ false = lt-leb (length (chosen_inputs codes d))
            (length in_codes) (omega arith) in
            let e = false-one (holds (length out) its-result.text) _ (holds (length out_codes) its-result.outputs)
            (holds (length tal) its-result.tally) b in
            fewest-refused out in_codes out_codes tal (accepted ∙ rw e refl)

        -- the source under the choice that is given, in the tables t' and with the codes at the front of ys
        module _ {t' : Tables} {ys : List ℕ} {r : Tally} (C : Chose N codes wanted budget t' h.gates ys r) where
          its-codes : take (length codes) ys ≡ chosen_inputs codes d
          its-codes = C.inputs

          read-chosen : Read h t' h.gates is os (chosen_source N (choice N codes (given_number N codes wanted budget)))
          read-chosen = record {
            holds = record {
              gates = sym (C.gates ∙ ap (λ (n : ℕ). Rattle.fewest.specs.Choice.chosen_gates d n N.gates) its-number);
              wires = a.holds.wires;
              ins = a.holds.ins;
              outs = a.holds.outs;
            };
            inputs = a.inputs;
            outputs = a.outputs;
            formed = chosen-formed N d a.formed;
          }

          good-codes : list_good is_input_code h.input_bits (take (length codes) ys) ≡ true
          good-codes =
              let I = chosen-inputs inputs-good d taken in
              ap (list_good is_input_code h.input_bits) its-codes
              ∙ is_true _ (pair (eqb (length (chosen_inputs codes d)) h.input_bits)
              (every is_input_code (chosen_inputs codes d))
              (true-T _ (eq-eqb (length (chosen_inputs codes d)) h.input_bits (chosen-length ∙ lengths))) I.codes_good)

          pub chosen-source : MaskSource t' h.gates h.wires (length codes) (length wanted) (is ++ (2 ∷ [])) os
              (chosen_source N (choice N codes (given_number N codes wanted budget)))
          chosen-source =
              let n : length (take (length codes) ys) ≡ length codes = ap length its-codes ∙ chosen-length in
              rw n at (source_of read-chosen (take (length codes) ys) wanted good-codes q)

          pub chosen-masked : WellFormed
              (mask_netlist (chosen_source N (choice N codes (given_number N codes wanted budget)))
              (take (length codes) ys) wanted).netlist
          chosen-masked = masked-formed read-chosen (take (length codes) ys) wanted good-codes q

          pub fewest-14 : {out' in_codes' out_codes' tal' : List ℕ} {x : std.Result ℕ Refusal}
              → FewestAnswers (deliver (room out in_codes out_codes tal)
              (given (chosen_source N (choice N codes (given_number N codes wanted budget)))
              (take (length codes) ys) wanted r))
              out out' in_codes in_codes' out_codes out_codes' tal tal' x
              → FewestAnswers (fewest_outcome codes wanted budget (room out in_codes out_codes tal) N) out out' in_codes
              in_codes' out_codes out_codes' tal tal' x
          fewest-14 A =
              let e : given (chosen_source N d) (take (length codes) ys) wanted r ≡ its-result =
              ap₂ (λ (cs tl : List ℕ). record {
                text = Rattle.netlist.specs.Write.write_netlist (mask_netlist (chosen_source N d) cs wanted).netlist;
                inputs = cs;
                outputs = (mask_netlist (chosen_source N d) cs wanted).codes;
                tally = tl;
              }) its-codes (ap₂ (λ (x y : ℕ). x ∷ y ∷ []) C.changes C.floor) in
              fewest-as (sym (accepted ∙ ap (deliver (room out in_codes out_codes tal)) (sym e))) A

-- ---- questions 1 to 9

module _ (s : Sizes) (text codes wanted : List ℕ) (budget : ℕ) (out in_codes out_codes tal o r w m y b z : List ℕ) where
  abbrev lengths' : List ℕ
  lengths' = length o ∷ length r ∷ length m ∷ length w ∷ length y ∷ length b ∷ length z ∷ []

  abbrev rooms : Rooms
  rooms = room out in_codes out_codes tal

  pub call-not : {k : Refusal} → ask 1 (tables_long (source_limits s) lengths') (read_netlist (source_limits s) text)
      ≡ refused (number_of k)
      → FewestAnswers (call s text codes wanted budget (room out in_codes out_codes tal) o r w m y b z) out out in_codes
      in_codes out_codes out_codes tal tal (Err k)
  unfolding fewest_call
  call-not h =
      fewest-refused out in_codes out_codes tal
      (call-refused (tables_long (source_limits s) lengths') (read_netlist (source_limits s) text)
      (fewest_outcome codes wanted budget rooms) h)

  pub call-read : {out' in_codes' out_codes' tal' is os : List ℕ} {t : Tables} {h : Header} {a : std.Result ℕ Refusal}
      → (tables_long (source_limits s) lengths' ≡ true) × ReadAt (source_limits s) text is os t h
      → ((N : Netlist) → Read h t h.gates (take h.input_values is) (take h.output_values os) N
      → FewestAnswers (fewest_outcome codes wanted budget (room out in_codes out_codes tal) N) out out' in_codes
      in_codes' out_codes out_codes' tal tal' a)
      → FewestAnswers (call s text codes wanted budget (room out in_codes out_codes tal) o r w m y b z) out out'
      in_codes in_codes' out_codes out_codes' tal tal' a
  unfolding fewest_call
  call-read k d =
      fewest-as
      (sym (call-goes-on (tables_long (source_limits s) lengths') (read_netlist (source_limits s) text)
      (fewest_outcome codes wanted budget rooms) k.0 k.1.read))
      (d k.1.is (read_of k.1))

  -- ---- the promise

  pub call-gives : {out' in_codes' out_codes' tal' : List ℕ} {a : std.Result ℕ Refusal}
      → FewestAnswers (call s text codes wanted budget (room out in_codes out_codes tal) o r w m y b z) out out'
      in_codes in_codes' out_codes out_codes' tal tal' a
      → (n : ℕ) → a ≡ Ok n
      → Gives s text codes wanted budget (call s text codes wanted budget (room out in_codes out_codes tal) o r w m y b
      z) (take n out') in_codes' out_codes' tal'
  call-gives {out'} {in_codes'} {out_codes'} {tal'} {a} A n p =
      let c = call s text codes wanted budget rooms o r w m y b z in
      let x : part (λ R. R.text) c ≡ done (take n out') = sym (ap (outcome_of out') (sym p) ∙ A.text.outcome) in
      let d = and_then-done c (λ R. done R.text) (take n out') x in
      let R = d.0 in
      let k = worth s lengths' text codes wanted budget rooms R d.1 in
      let h₁ = holds (length out) R.text in
      let h₂ = holds (length in_codes) R.inputs in
      let h₃ = holds (length out_codes) R.outputs in
      let b₁ = both (h₁ && h₂ && h₃) (holds (length tal) R.tally) k.1 in
      let b₂ = both (h₁ && h₂) h₃ b₁.0 in
      let b₃ = both h₁ h₂ b₂.0 in
      let fill : (f : Result → List ℕ) (e e' : List ℕ) → e' ≡ sets e 0 (written (part f c)) → T (holds (length e) (f R))
      → take (length (f R)) e' ≡ f R =
      (λ f e e' g t. ap (take (length (f R))) (g ∙ ap (λ (u : Outcome Result). sets e 0 (written (part f u))) d.1)
      ∙ take-sets (f R) e
      (leb→le (length (f R)) (length e) t)) in
      record {
        result = R;
        is-outcome = d.1;
        text-is = sym (done-same R.text (take n out') d.2);
        inputs = fill (λ R. R.inputs) in_codes in_codes' A.inputs b₃.1;
        outputs = fill (λ R. R.outputs) out_codes out_codes' A.outputs b₂.1;
        tally = fill (λ R. R.tally) tal tal' A.tally b₁.1;
        worth = k.0;
      }
