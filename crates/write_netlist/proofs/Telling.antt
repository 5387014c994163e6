-- From a netlist that was made to what its writing answers.
use Rattle.std.specs.Prelude.{Err, Result}
use Prim.Native.Nat.{ℕ}
use mathlib.Core.Path.{◌≡◌, refl, sym, ap, ap₂, ◌∙◌, subst}
use mathlib.Core.List.{List, [], ◌∷◌, ◌++◌}
use lib.ListN.{length}
use Rattle.netlist.specs.declared.Refusal.{Refusal}
use Rattle.netlist.specs.Netlist.{Netlist}
use Rattle.netlist.specs.Outcome.{Outcome, refused, and_then}
use Rattle.netlist.specs.Write.{write_netlist, gate_text}
use Rattle.netlist.specs.Services.{rewrite_outcome, Answers, Delivers}
use Rattle.netlist.specs.Table.{Tables}
use Rattle.netlist.proofs.Answering.{answers-as, answers-refused}
use Rattle.netlist.proofs.Puts.{length-gates}
use Rattle.write_netlist.specs.Header.{header_text}
use Rattle.write_netlist.proofs.Headers.{header-gates}
use Rattle.write_netlist.specs.Form.{form_text}
use Rattle.write_netlist.specs.Made.{NetlistAt}
use Rattle.write_netlist.specs.declared.made.NetlistNumbers.{NetlistNumbers}
use Rattle.netlist.specs.Refusal.{number_of}

-- the tables' written form is that of the netlist
form-same : {o : Outcome Netlist} {tabs : Tables} {m : NetlistNumbers} (a : NetlistAt o tabs m)
    → form_text m.gates m.wires (m.inputs ∷ []) (m.outputs ∷ []) tabs ≡ write_netlist a.is
form-same {tabs = tabs} {m = m} a =
    let N = a.is in
    let g : length N.gates ≡ m.gates = ap length a.gates ∙ length-gates tabs m.gates in
    let p : header_text m.gates m.wires (m.inputs ∷ []) (m.outputs ∷ []) ≡ header_text (length N.gates) N.wires N.inputs
    N.outputs
    = let h = header_text m.gates m.wires (m.inputs ∷ []) (m.outputs ∷ []) in
    subst (λ (k : ℕ). h ≡ header_text k N.wires N.inputs N.outputs) (sym g)
    (subst (λ (w : ℕ). h ≡ header_text m.gates w N.inputs N.outputs) (sym a.wires)
    (subst (λ (is : List ℕ). h ≡ header_text m.gates m.wires is N.outputs) (sym a.inputs)
    (subst (λ (os : List ℕ). h ≡ header_text m.gates m.wires (m.inputs ∷ []) os) (sym a.outputs) refl))) in
    ap₂ ◌++◌ p (ap gate_text (sym a.gates)) ∙ header-gates N

-- questions 2, 19, 20, 19, 5 and 14
pub file-read : (o : Outcome Netlist) (tabs : Tables) (m : NetlistNumbers) {e x : List ℕ} {r : Result ℕ Refusal}
    → NetlistAt o tabs m
    → Delivers (form_text m.gates m.wires (m.inputs ∷ []) (m.outputs ∷ []) tabs) e x r
    → Answers (and_then o (rewrite_outcome (length e))) e x r
file-read o tabs m {e} {x} {r} a d =
    let k : Delivers (write_netlist a.is) e x r = subst (λ (bs : List ℕ). Delivers bs e x r) (form-same a) d in
    answers-as (sym (ap (λ (o : Outcome Netlist). and_then o (rewrite_outcome (length e))) a.outcome)) k.answers

pub file-not : (o : Outcome Netlist) (e : List ℕ) (q : Refusal) → o ≡ refused (number_of q)
    → Answers (and_then o (rewrite_outcome (length e))) e e (Err q)
file-not o e q n = answers-refused e (ap (λ (o : Outcome Netlist). and_then o (rewrite_outcome (length e))) n)
