-- From a source that was read to the promise of the twins.
use Rattle.std.specs.Prelude.{Err, Ok, Result}
use Prim.Native.Nat.{ℕ}
use mathlib.Core.Path.{◌≡◌, refl, sym, ap, ap₂, ◌∙◌}
use mathlib.Core.Bool.{true, ◌&&◌}
use mathlib.Core.List.{List, [], ◌∷◌, map}
use lib.ListN.{length, take}
use Rattle.netlist.specs.declared.Sizes.{Sizes}
use Rattle.netlist.specs.declared.Refusal.{Refusal}
use Rattle.netlist.specs.Refusal.{number_of}
use Rattle.netlist.specs.declared.Twin.{Twin}
use Rattle.netlist.specs.Netlist.{Netlist, input_bits, source_limits}
use Rattle.netlist.specs.Outcome.{refused, done, ask}
use Rattle.netlist.specs.Read.{read_netlist}
use Rattle.masking.specs.Mask.{is_input_code, finish, mask_netlist}
use Rattle.netlist.specs.Services.{tables_long, list_good, holds, outcome_of}
use Rattle.netlist.proofs.Questions.{done-same, ask-done, and_then-done}
use Rattle.netlist.proofs.Answering.{call-refused, call-goes-on}
use Rattle.reader.specs.declared.netlist_tables.NetlistTables.{NetlistTables}
use Rattle.reader.specs.Tables.{HoldsNetlist}
use Rattle.reader.specs.Taken.{TakenOf}
use Rattle.mask_rule.specs.State.{twins_of}
use Rattle.masking.proofs.Carried.{twins-carried}
use Rattle.mask_rule.proofs.Made.{made, made-back}
use Rattle.mask.specs.TwinsPromise.{TwinLists, wire_of, code_of, twin_lists, wires_in, codes_in, twins_outcome}
use Rattle.mask.specs.TwinsPromise.{twins_call, call, TwinsAnswers, Given}
use Rattle.mask.proofs.Placing.{twins-as, twins-refused}

-- the two lists of twins are those twins
twins-back : (ts : List Twin) → twins_of (map wire_of ts) (map code_of ts) ≡ ts
twins-back [] = refl
twins-back (t ∷ ts) = ap (λ (l : List Twin). t ∷ l) (twins-back ts)

module _ (s : Sizes) (text codes wires out_codes o r g : List ℕ) where
  abbrev lengths : List ℕ
  lengths = length o ∷ length r ∷ length g ∷ []

  -- questions 1 to 9, and then 11 and 14
  pub call-not : {q : Refusal} → ask 1 (tables_long (source_limits s) lengths) (read_netlist (source_limits s) text)
      ≡ refused (number_of q)
      → TwinsAnswers (call s text codes wires out_codes o r g) wires wires out_codes out_codes (Err q)
  unfolding twins_call
  call-not p =
      twins-refused wires out_codes
      (call-refused (tables_long (source_limits s) lengths) (read_netlist (source_limits s) text)
      (twins_outcome codes (length wires) (length out_codes)) p)

  pub call-read : {x y : List ℕ} {n : NetlistTables} {a : Result ℕ Refusal}
      → (tables_long (source_limits s) lengths ≡ true) × TakenOf (source_limits s) text n
      → ((N : Netlist) → HoldsNetlist n N
      → TwinsAnswers (twins_outcome codes (length wires) (length out_codes) N) wires x out_codes y a)
      → TwinsAnswers (call s text codes wires out_codes o r g) wires x out_codes y a
  unfolding twins_call
  call-read k d =
      twins-as
      (sym (call-goes-on (tables_long (source_limits s) lengths) (read_netlist (source_limits s) text)
      (twins_outcome codes (length wires) (length out_codes))
      k.0 k.1.read))
      (d k.1.is k.1.holds)

  -- a result is the two lists of the source's twins
  record Placed (L : TwinLists) : Type 0 where
    pub source : Netlist
    pub read : read_netlist (source_limits s) text ≡ done source
    pub same : twin_lists source codes ≡ L

  placed : (L : TwinLists) → call s text codes wires out_codes o r g ≡ done L → Placed L
  unfolding twins_call
  placed L e =
      let one = ask-done 1 (tables_long (source_limits s) lengths) _ L e in
      let two = and_then-done (read_netlist (source_limits s) text)
      (twins_outcome codes (length wires) (length out_codes)) L one.1 in
      let N = two.0 in
      let c11 = ask-done 11 (list_good is_input_code (input_bits N) codes) _ L two.2 in
      let c14 = ask-done 14 (holds (length wires) (twin_lists N codes).wires && holds (length out_codes)
      (twin_lists N codes).codes) _ L c11.1 in
      record { source = N; read = two.1; same = done-same _ _ c14.1 }

  -- the source of a text is the same in every call
  same_source : {N N' : Netlist} → read_netlist (source_limits s) text ≡ done N → read_netlist (source_limits s) text
      ≡ done N' → N ≡ N'
  same_source p q = done-same _ _ (sym p ∙ q)

  pub call-twins : {x y : List ℕ} {a : Result ℕ Refusal} → TwinsAnswers (call s text codes wires out_codes o r g) wires
      x out_codes y a
      → (n : ℕ) → a ≡ Ok n → Given s text codes (take n x) (take n y)
  call-twins {x} {y} {a} h n p =
      let c = call s text codes wires out_codes o r g in
      let w : wires_in c ≡ done (take n x) = sym (ap (outcome_of x) (sym p) ∙ h.wires.outcome) in
      let v : codes_in c ≡ done (take n y) = sym (ap (outcome_of y) (sym p) ∙ h.codes.outcome) in
      let d = and_then-done c (λ L. done L.wires) (take n x) w in
      let L = d.0 in
      let k = placed L d.1 in
      let N = k.source in
      let ws : map wire_of (finish N codes).twins ≡ take n x = ap (λ (Q : TwinLists). Q.wires) k.same
      ∙ done-same L.wires (take n x) d.2 in
      let es : map code_of (finish N codes).twins ≡ take n y
      = ap (λ (Q : TwinLists). Q.codes) k.same ∙ done-same L.codes (take n y) (sym (ap codes_in d.1) ∙ v) in
      let same : twins_of (take n x) (take n y) ≡ (finish N codes).twins = sym (ap₂ twins_of ws es)
      ∙ twins-back (finish N codes).twins in
      record {
        source = N;
        read = k.read;
        steps = same;
        masked = λ tables wanted text_room code_room R e.
            let j = made s tables text codes wanted text_room code_room R e in
            let q : j.source ≡ N = same_source j.read k.read in
            record {
              netlist = (mask_netlist j.source codes wanted).netlist;
              back = made-back j;
              twins = rw (same, sym q) (twins-carried j.inputs);
            };
      }
