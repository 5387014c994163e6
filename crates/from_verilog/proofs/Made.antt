-- The gates that assignments and copies put into the tables are those of the netlist made.
use Prim.Native.Nat.{ℕ}
use mathlib.Core.Path.{◌≡◌, refl, sym, ap, ap₂, ◌∙◌}
use mathlib.Core.Bool.{Bool}
use mathlib.Core.List.{List, [], ◌∷◌, ◌++◌, map}
use mathlib.Core.Option.{some}
use lib.Dec.{T, eqb}
use Rattle.netlist.specs.Lists.{ascii}
use Rattle.netlist.specs.Table.{Tables}
use Rattle.netlist.proofs.Tests.{is_true}
use Rattle.verilog.specs.Tokens.{Token, mark, elem}
use Rattle.verilog.specs.Syntax.{Module, Stands, assign_tokens, each_tokens}
use Rattle.verilog.specs.Rules.{all_names, inputs, outputs, wires, rules_kept}
use Rattle.verilog.specs.Equations.{chosen, input_ports, output_ports, look}
use Rattle.verilog.specs.Made.{Built, build, numbered, copies, built, netlist_made}
use Rattle.verilog.proofs.Naming.{kept}
use Rattle.verilog.proofs.NameByName.{each-good}
use Rattle.from_verilog.specs.Next.{between}
use Rattle.from_verilog.proofs.Firsts.{token-code}
use Rattle.from_verilog.specs.Puts.{put_gates}
use Rattle.from_verilog.specs.Wires.{wire_of}
use Rattle.from_verilog.specs.Equations.{Laid, lay_all, unlaid, Laying, EquationsIs}
use Rattle.from_verilog.proofs.Joins.{puts-append}
use Rattle.from_verilog.proofs.Seating.{known}
use Rattle.from_verilog.specs.Settled.{assigns_left}
use Rattle.from_verilog.specs.Copies.{output_copies, CopiesIs}
use Rattle.from_verilog.specs.declared.rules.Kept.{Kept as Answer}
use Rattle.from_verilog.specs.Kept.{KeptAt}
use Rattle.from_verilog.specs.Gates.{GatesPut}
use Rattle.from_verilog.proofs.Items.{assigns-accepted, end-only, assigns-same}
use Rattle.from_verilog.proofs.Lays.{lay-build}

made-gates : (m : Module) → (netlist_made m).gates ≡ (built m).gates
    ++ copies (built m).next (map (look 0 (built m).names) (output_ports m))
unfolding netlist_made
made-gates m = refl

pub gates-put : {t : List ℕ} {size : ℕ} {heads words links st ws ws' : List ℕ} {k : Answer} {before mid after : Tables}
    {free first : ℕ}
    → EquationsIs t words k.inputs k.count k.assigns ws k.inputs before mid ws' free → CopiesIs t words st ws' k.count
    k.inputs k.ports
    first mid after
    → GatesPut t size heads words links st ws k first before after
gates-put {t} {size} {heads} {words} {links} {st} {ws} {ws'} {k} {before} {mid} {after} {free} {first} E C
    = record { gives = go }
  where
    go : (m : Module) → Stands m t → T (rules_kept m) → KeptAt m t size heads words links st ws k → first
        ≡ (built m).next → after ≡ put_gates k.inputs before
        (netlist_made m).gates
    go m S r A nx =
        let n = k.inputs in
        let count = k.count in
        let K = kept m r in
        let L : Laying t words n count ws n E.place (assigns_left m.assigns []) before mid ws' free
        = E.gives (assigns_left m.assigns []) A.assigns_at
        (assigns-accepted t m S) in
        let e : L.rest ≡ mark (ascii "endmodule") ∷ [] = end-only L.rest L.onward
        (λ us q. E.other (token-code E.code (between t E.start E.following) (mark (ascii "assign"))
        (known E.token (mark (ascii "assign")) us (L.left ∙ ap some q)).0)) in
        let x : L.assigns ≡ m.assigns = assigns-same t m S L.assigns
        (sym (L.split ∙ ap (λ (ts : List Token). each_tokens assign_tokens L.assigns ++ ts) e)) in
        let D = each-good (outputs m ++ wires m) m.assigns (inputs m) K.assigns in
        let B = lay-build t words count (outputs m ++ wires m)
        (λ w h. A.targets w (is_true (elem w (outputs m ++ wires m)) h)) m.assigns [] ws n
        (numbered 0 (input_ports m)) A.wired A.input_wires D.assigned in
        let y : lay_all t words count (unlaid ws n) L.assigns ≡ lay_all t words count (unlaid ws n) m.assigns
        = ap (lay_all t words count (unlaid ws n)) x in
        let b : build (numbered 0 (input_ports m)) n m.assigns ≡ built m
        = ap (λ (c : ℕ). build (numbered 0 (input_ports m)) c m.assigns) A.inputs in
        let gs : (lay_all t words count (unlaid ws n) L.assigns).gates ≡ (built m).gates = ap (λ (X : Laid). X.gates) y
        ∙ B.made ∙ ap (λ (X : Built). X.gates) b in
        let at : wire_of t words ws' count ≡ look 0 (built m).names
        = λ i v. (ap (λ (xs : List ℕ). wire_of t words xs count v)
        (L.wired ∙ ap (λ (X : Laid). X.wires) y) ∙ B.wires v ∙ ap (λ (X : Built). look 0 X.names v) b) i in
        let p : List ℕ → Bool = λ w. eqb (wire_of t words st count w) 6 in
        let q : List ℕ → Bool = λ w. elem w (outputs m) in
        let six : p ≡ q = λ i v. A.output_names v i in
        let cs : output_copies t words st ws' count first (all_names m.ports)
        ≡ copies (built m).next (map (look 0 (built m).names) (output_ports m))
        = λ i. copies (nx i) (map (at i) (chosen (six i) (all_names m.ports))) in
        C.gives (all_names m.ports) A.items A.ports_at
        ∙ ap₂ (put_gates n) (L.stored ∙ ap (put_gates n before) gs) cs
        ∙ sym (puts-append n before (built m).gates (copies (built m).next
        (map (look 0 (built m).names) (output_ports m))))
        ∙ ap (put_gates n before) (sym (made-gates m))
