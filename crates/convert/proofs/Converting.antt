-- From a text that was read to the outcome of a conversion.
use Rattle.std.specs.Prelude.{Ok, Err, Result}
use Prim.Native.Nat.{ℕ}
use mathlib.Core.Path.{◌≡◌, refl, sym, ap, ap₂, ◌∙◌}
use mathlib.Core.Bool.{Bool, true, false}
use mathlib.Core.List.{List, [], ◌∷◌, ◌++◌}
use lib.Dec.{leb}
use lib.ListN.{length, take}
use Rattle.netlist.specs.declared.Limits.{Limits}
use Rattle.netlist.specs.declared.Sizes.{Sizes}
use Rattle.netlist.specs.declared.Refusal.{Refusal}
use Rattle.netlist.specs.Refusal.{number_of}
use Rattle.netlist.specs.Netlist.{Netlist, masked_limits}
use Rattle.netlist.specs.Outcome.{Outcome, refused, done, ask, and_then}
use Rattle.netlist.specs.Write.{write_netlist, gate_text}
use Rattle.netlist.specs.Services.{tables_long, delivered, outcome_of, Answers}
use Rattle.netlist.specs.Table.{Tables, gates_of}
use Rattle.netlist.proofs.Answering.{answers-as, answers-refused, call-refused, call-goes-on}
use Rattle.netlist.proofs.Questions.{done-same, refused-done}
use Rattle.netlist.proofs.Puts.{length-gates}
use Rattle.dialect.specs.declared.Dialect.{Dialect}
use Rattle.dialect.specs.declared.Dialect.TheVariants.{Fashion, Old}
use Rattle.dialect.specs.OldWrite.{write_old}
use Rattle.dialect.specs.Dialects.{read_in}
use Rattle.write_netlist.specs.Header.{header_text_in}
use Rattle.write_netlist.proofs.Headers.{header-gates, old-header-gates}
use Rattle.reader.specs.declared.header.Header.{Header}
use Rattle.reader.specs.Whole.{ReadOf}
use Rattle.write_netlist.specs.Form.{form_text_in}
use Rattle.convert.specs.Convert.{has_form, form_outcome, call}

-- the written form in a dialect
abbrev pub text_in : Dialect → Netlist → List ℕ
text_in Fashion N = write_netlist N
text_in Old N = write_old N

header-text : (to : Dialect) (N : Netlist) → header_text_in to (length N.gates) N.wires N.inputs N.outputs
    ++ gate_text N.gates ≡ text_in to N
header-text Fashion N = header-gates N
header-text Old N = old-header-gates N

outcome-of : (to : Dialect) (room : ℕ) (N : Netlist)
    → ask 15 (has_form to N.gates (length N.inputs) (length N.outputs)) (delivered room (text_in to N))
    ≡ form_outcome to room N
outcome-of Fashion room N = refl
outcome-of Old room N = refl

module _ {from : Dialect} {L : Limits} {t ins outs : List ℕ} {tabs : Tables} {h : Header} (to : Dialect)
    (a : ReadOf from L t ins outs tabs h) where
  -- the tables' written form is that of the netlist read
  text_same : form_text_in to h.gates h.wires (take h.input_values ins) (take h.output_values outs) tabs
      ≡ text_in to a.is
  text_same =
      let N = a.is in
      let g : length N.gates ≡ h.gates = ap length a.holds.gates ∙ length-gates tabs h.gates in
      let p : header_text_in to h.gates h.wires (take h.input_values ins) (take h.output_values outs)
      ≡ header_text_in to (length N.gates) N.wires N.inputs N.outputs
      = rw (g, a.holds.wires, a.inputs, a.outputs) refl in
      ap₂ ◌++◌ p (ap gate_text (sym a.holds.gates)) ∙ header-text to N

  -- questions 15 and 14 of the tables are those of the netlist
  outcome-same : (room : ℕ)
      → ask 15 (has_form to (gates_of tabs h.gates) (length (take h.input_values ins))
      (length (take h.output_values outs)))
      (delivered room (form_text_in to h.gates h.wires (take h.input_values ins) (take h.output_values outs) tabs))
      ≡ form_outcome to room a.is
  outcome-same room =
      let N = a.is in
      let f : has_form to (gates_of tabs h.gates) (length (take h.input_values ins))
      (length (take h.output_values outs))
      ≡ has_form to N.gates (length N.inputs) (length N.outputs)
      = rw (a.inputs, a.outputs, a.holds.gates) refl in
      ap₂ (λ (b : Bool) (bs : List ℕ). ask 15 b (delivered room bs)) f text_same ∙ outcome-of to room N

module _ (from to : Dialect) (s : Sizes) (text out o r g : List ℕ) where
  -- questions 1 to 9, and then 15 and 14
  pub call-not : (q : Refusal) → ask 1 (tables_long (masked_limits s) (length o ∷ length r ∷ length g ∷ []))
      (read_in from (masked_limits s) text) ≡ refused (number_of q)
      → Answers (call from to s text out o r g) out out (Err q)
  call-not q p =
      answers-refused out
      (call-refused (tables_long (masked_limits s) (length o ∷ length r ∷ length g ∷ []))
      (read_in from (masked_limits s) text) (form_outcome to (length out)) p)

  pub call-read : {ins outs x : List ℕ} {tabs : Tables} {h : Header} {a : Result ℕ Refusal}
      → (tables_long (masked_limits s) (length o ∷ length r ∷ length g ∷ []) ≡ true) × ReadOf from (masked_limits s)
      text ins outs tabs h
      → Answers (ask 15 (has_form to (gates_of tabs h.gates) (length (take h.input_values ins))
      (length (take h.output_values outs)))
      (delivered (length out) (form_text_in to h.gates h.wires (take h.input_values ins) (take h.output_values outs)
      tabs))) out x a
      → Answers (call from to s text out o r g) out x a
  call-read k d =
      answers-as
      (outcome-same to k.1 (length out)
      ∙ sym (call-goes-on (tables_long (masked_limits s) (length o ∷ length r ∷ length g ∷ []))
      (read_in from (masked_limits s) text) (form_outcome to (length out)) k.0 k.1.read))
      d

  -- a result is the written form of the netlist read, which has one
  pub call-text : {x : List ℕ} {a : Result ℕ Refusal} → Answers (call from to s text out o r g) out x a
      → (n : ℕ) (N : Netlist) → a ≡ Ok n → read_in from (masked_limits s) text ≡ done N
      → (has_form to N.gates (length N.inputs) (length N.outputs) ≡ true) × (take n x ≡ text_in to N)
  call-text {x} {a} w n N p e =
      let b = tables_long (masked_limits s) (length o ∷ length r ∷ length g ∷ []) in
      let d : done (take n x) ≡ ask 1 b (form_outcome to (length out) N) =
      ap (outcome_of x) (sym p) ∙ w.outcome ∙ ap (λ (u : Outcome Netlist). ask 1 b
      (and_then u (form_outcome to (length out)))) e in
      asked b (has_form to N.gates (length N.inputs) (length N.outputs)) (leb (length (text_in to N)) (length out))
      (d ∙ ap (ask 1 b) (sym (outcome-of to (length out) N)))
    where
      asked : (b f c : Bool) → done (take n x) ≡ ask 1 b (ask 15 f (ask 14 c (done (text_in to N)))) → (f ≡ true)
          × (take n x ≡ text_in to N)
      asked true true true q = (refl, done-same (take n x) (text_in to N) q)
      asked true true false q = absurd (refused-done 14 (take n x) (sym q))
      asked true false c q = absurd (refused-done 15 (take n x) (sym q))
      asked false f c q = absurd (refused-done 1 (take n x) (sym q))
