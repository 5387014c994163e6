-- From the results of the parts to what is promised.
use Rattle.std.specs.Prelude.{Result, Ok, Err}
use Prim.Native.Nat.{ℕ}
use mathlib.Core.Path.{◌≡◌, refl, sym, ap, ap₂, ◌∙◌, subst}
use mathlib.Core.List.{List, [], ◌∷◌, ◌++◌}
use lib.ListN.{length, take}
use Rattle.netlist.specs.declared.Refusal.{Refusal}
use Rattle.netlist.specs.declared.Sizes.{Sizes}
use Rattle.netlist.specs.Lists.{sum}
use Rattle.netlist.specs.Netlist.{Netlist, source_limits}
use Rattle.netlist.specs.Refusal.{number_of}
use Rattle.netlist.specs.Outcome.{Outcome, refused, done, and_then}
use Rattle.netlist.specs.Read.{read_netlist}
use Rattle.netlist.specs.Write.{write_netlist, gate_text}
use Rattle.netlist.specs.Services.{tables_long, holds, rewrite_outcome, outcome_of, Answers, Delivers}
use Rattle.masking.specs.Calls.{mask_outcome, mask_call}
use Rattle.netlist.proofs.Questions.{ask-done, done-same, and_then-done}
use Rattle.netlist.proofs.Answering.{answers-as, answers-refused, call-goes-on}
use Rattle.netlist.proofs.Puts.{length-gates}
use Rattle.netlist.proofs.Size.{roomy-small, reads-back}
use Rattle.gates.specs.declared.records.SourceRecord.{SourceRecord}
use Rattle.gates.specs.declared.Gates.{Gates}
use Rattle.gates.specs.Gates.{tables_of}
use Rattle.write_netlist.specs.Header.{header_text}
use Rattle.write_netlist.proofs.Headers.{header-gates}
use Rattle.write_netlist.specs.Form.{form_text}
use Rattle.mask.specs.Whole.{text_in, MaskAnswers}
use Rattle.mask.specs.Fronts.{Read}
use Rattle.mask.specs.Promise.{Masks}
use Rattle.mask.proofs.Promised.{mask-as, mask-refused, call-masks}
use Rattle.session.specs.declared.Session.{Session}
use Rattle.session.specs.declared.shown.Shown.{Shown}
use Rattle.session.specs.Shown.{netlist_shown, text_call, masked_call}
use Rattle.session.specs.Parts.{NetlistAt}
use Rattle.session.specs.SessionTextPromise.{text, masked, Shows}
use Rattle.session.proofs.Showing.{shown-made, shown-formed, shown-within}

-- ---- the text of tables that hold a netlist

form-same : {o : Outcome Netlist} {q : Shown} {gs : Gates} (a : NetlistAt o gs q)
    → form_text gs.count q.header.wires q.widths.now q.outputs.now (tables_of gs) ≡ write_netlist a.is
form-same {o} {q} {gs} a =
    let N = a.is in
    let g : length N.gates ≡ gs.count = ap length a.gates ∙ length-gates (tables_of gs) gs.count in
    let p : header_text gs.count q.header.wires q.widths.now q.outputs.now ≡ header_text (length N.gates) N.wires
    N.inputs N.outputs
    = λ i. header_text (sym g i) (sym a.wires i) (sym a.inputs i) (sym a.outputs i) in
    ap₂ ◌++◌ p (ap gate_text (sym a.gates)) ∙ header-gates N

pub text-written : {o : Outcome Netlist} {q : Shown} {g : Gates} {e x : List ℕ} {r : Result ℕ Refusal} → NetlistAt o g q
    → Delivers (form_text g.count q.header.wires q.widths.now q.outputs.now (tables_of g)) e x r
    → Answers (and_then o (rewrite_outcome (length e))) e x r
text-written {o} {e = e} {x = x} {r = r} a d =
    let k : Delivers (write_netlist a.is) e x r = subst (λ (bs : List ℕ). Delivers bs e x r) (form-same a) d in
    answers-as (sym (ap (λ (o : Outcome Netlist). and_then o (rewrite_outcome (length e))) a.outcome)) k.answers

-- what Mask reads of them
pub netlist-read : {o : Outcome Netlist} {q : Shown} {g : Gates} (a : NetlistAt o g q)
    → Read q.header (tables_of g) g.count q.widths.now q.outputs.now a.is
netlist-read {o} {q} {g} a = record {
  holds = record {
    gates = a.gates;
    wires = a.wires;
    ins = ap sum a.inputs ∙ sym q.counted.input_bits;
    outs = ap sum a.outputs ∙ sym q.counted.output_bits;
  };
  inputs = sym a.inputs;
  outputs = sym a.outputs;
  formed = a.formed;
}

-- Mask's answer for it is the one for the outcome
pub masked-written : {o : Outcome Netlist} {q : Shown} {g : Gates} (codes wanted : List ℕ) {e x f y : List ℕ}
    {r : Result ℕ Refusal} (a : NetlistAt o g q)
    → MaskAnswers (mask_outcome codes wanted (length e) (length f) a.is) e x f y r
    → MaskAnswers (and_then o (mask_outcome codes wanted (length e) (length f))) e x f y r
masked-written {o} codes wanted {e} {f = f} a m =
    mask-as (sym (ap (λ (u : Outcome Netlist). and_then u (mask_outcome codes wanted (length e) (length f))) a.outcome))
    m

-- ---- the text's call

module _ (z : Sizes) (widths outputs : List ℕ) (s : Session) (source : List SourceRecord) where
  abbrev shown : List ℕ → Outcome Netlist
  shown lengths = netlist_shown (source_limits z) lengths widths outputs s.gates source

  -- the text of a netlist that is shown reads back as it
  pub shown-back : (lengths : List ℕ) (N : Netlist) → shown lengths ≡ done N → read_netlist (source_limits z)
      (write_netlist N) ≡ done N
  shown-back lengths N e =
      reads-back (roomy-small z) N (shown-formed (source_limits z) lengths widths outputs s.gates source N e)
      (shown-within (source_limits z) lengths widths outputs s.gates source N e)

  written-shows : (lengths : List ℕ) (room : ℕ) (result : List ℕ) → text_call (source_limits z) lengths widths outputs
      s.gates source room ≡ done result
      → Shows z lengths widths outputs s source result
  unfolding text_call
  written-shows lengths room result e =
      let k = and_then-done (shown lengths) (rewrite_outcome room) result e in
      let N : Netlist = k.0 in
      let q = ask-done 14 (holds room (write_netlist N)) (done (write_netlist N)) result k.2 in
      let w : write_netlist N ≡ result = done-same (write_netlist N) result q.1 in
      record {
        netlist = N;
        shown = k.1;
        written = sym w;
        back = ap (read_netlist (source_limits z)) (sym w)
            ∙ shown-back lengths N k.1;
      }

  pub text-shows : {out out' : List ℕ} (o r : List ℕ) {a : Result ℕ Refusal}
      → Answers (text z widths outputs s source out o r) out out' a → (n : ℕ) → a ≡ Ok n
      → Shows z (length o ∷ length r ∷ []) widths outputs s source (take n out')
  text-shows {out} {out'} o r h n p = written-shows (length o ∷ length r ∷ []) (length out) (take n out')
      (sym h.outcome ∙ ap (outcome_of out') p)

  -- a no
  pub text-no : (out o r : List ℕ) {q : Refusal} → shown (length o ∷ length r ∷ []) ≡ refused (number_of q)
      → Answers (text z widths outputs s source out o r) out out (Err q)
  unfolding text_call
  text-no out o r e = answers-refused out (ap (λ (u : Outcome Netlist). and_then u (rewrite_outcome (length out))) e)

  -- ---- the masked text's call

  -- the theorem: what is shown masked is what Mask gives for the text that is shown
  pub masked-as-text : (lengths codes wanted : List ℕ) (text_room code_room : ℕ) (N : Netlist) → shown lengths ≡ done N
      → masked_call (source_limits z) lengths widths outputs s.gates source codes wanted text_room code_room
      ≡ mask_call (source_limits z) lengths (write_netlist N) codes wanted
      text_room code_room
  unfolding masked_call mask_call
  masked-as-text lengths codes wanted text_room code_room N e =
      ap (λ (u : Outcome Netlist). and_then u (mask_outcome codes wanted text_room code_room)) e
      ∙ sym (call-goes-on (tables_long (source_limits z) lengths) (read_netlist (source_limits z) (write_netlist N))
      (mask_outcome codes wanted text_room code_room)
      (shown-made (source_limits z) lengths widths outputs s.gates source N e).yes.long (shown-back lengths N e))

  pub masked-no : (codes wanted out oc o r w m : List ℕ) {q : Refusal}
      → shown (length o ∷ length r ∷ length m ∷ length w ∷ []) ≡ refused (number_of q)
      → MaskAnswers (masked z widths outputs s source codes wanted out oc o r w m) out out oc oc (Err q)
  unfolding masked_call
  masked-no codes wanted out oc o r w m e =
      mask-refused out oc (ap (λ (u : Outcome Netlist). and_then u (mask_outcome codes wanted (length out) (length oc)))
      e)

  pub masked-masks : (codes wanted : List ℕ) {out out' oc oc' : List ℕ} (o r w m : List ℕ) {a : Result ℕ Refusal}
      → MaskAnswers (masked z widths outputs s source codes wanted out oc o r w m) out out' oc oc' a → (n : ℕ) → a
      ≡ Ok n
      → (t : List ℕ) × Shows z (length o ∷ length r ∷ length m ∷ length w ∷ []) widths outputs s source t
      × Masks z t codes wanted (take n out') oc'
  unfolding masked_call
  masked-masks codes wanted {out} {out'} {oc} {oc'} o r w m h n p =
      let lengths = length o ∷ length r ∷ length m ∷ length w ∷ [] in
      let call = and_then (shown lengths) (mask_outcome codes wanted (length out) (length oc)) in
      let t : text_in call ≡ done (take n out') = sym (ap (outcome_of out') (sym p) ∙ h.text.outcome) in
      let d = and_then-done call (λ R. done R.text) (take n out') t in
      let k = and_then-done (shown lengths) (mask_outcome codes wanted (length out) (length oc)) d.0 d.1 in
      let N : Netlist = k.0 in (
        write_netlist N,
        record { netlist = N; shown = k.1; written = refl; back = shown-back lengths N k.1 },
        call-masks z (write_netlist N) codes wanted out oc o r w m
            (mask-as (masked-as-text lengths codes wanted (length out) (length oc) N k.1) h) n p,
      )
