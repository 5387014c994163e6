-- The recogniser over a module up to its assignments, and assignments that are read in its text.
use Prim.Native.Nat.{ℕ}
use mathlib.Core.Path.{◌≡◌, refl, sym, ap, ◌∙◌}
use mathlib.Core.Bool.{true}
use mathlib.Core.List.{List, [], ◌∷◌, ◌++◌, append_assoc}
use mathlib.Core.Option.{Option, some}
use Rattle.netlist.specs.Lists.{same_bytes, ascii}
use Rattle.netlist.proofs.Tests.{on_bool, true-T}
use Rattle.verilog.specs.Tokens.{Token, name, mark, tokens}
use Rattle.verilog.specs.Syntax.{Names, Kind, input, output, wire, Declaration, Assign, Module, Stands, comma_tokens}
use Rattle.verilog.specs.Syntax.{declaration_tokens, each_tokens, module_tokens}
use Rattle.verilog.specs.Rules.{all_names}
use Rattle.verilog.specs.Parse.{if_some}
use Rattle.verilog.specs.Walk.{flat, walk, well_ended, accepted, on_module, on_item, on_assign, after_port, after_name}
use Rattle.verilog.specs.Walk.{on_nothing}
use Rattle.verilog.specs.Reading.{Accepts}
use Rattle.verilog.proofs.Listing.{same-equal}
use Rattle.verilog.proofs.Parsing.{parse-complete, unambiguous}
use Rattle.verilog.proofs.Walking.{is_tree, recognised}
use Rattle.from_verilog.specs.Ports.{ports_left}
use Rattle.from_verilog.specs.Settled.{assigns_left}
use Rattle.from_verilog.proofs.Declared.{items_left, module-parts}

walk-ports : (ws : List (List ℕ)) (ts : List Token) → walk (comma_tokens ws ++ ts) (flat after_port)
    ≡ walk ts (flat after_port)
unfolding walk
walk-ports [] ts = refl
walk-ports (w ∷ ws) ts = walk-ports ws ts

walk-names : (ws : List (List ℕ)) (ts : List Token) → walk (comma_tokens ws ++ ts) (flat after_name)
    ≡ walk ts (flat after_name)
unfolding walk
walk-names [] ts = refl
walk-names (w ∷ ws) ts = walk-names ws ts

walk-declaration : (k : Kind) (ns : Names) (ts : List Token)
    → walk (declaration_tokens (record { kind = k; names = ns }) ++ ts) (flat on_item) ≡ walk ts (flat on_item)
unfolding walk
walk-declaration k ns ts = go k
  where
    rest : walk ((comma_tokens ns.more ++ mark (ascii ";") ∷ []) ++ ts) (flat after_name) ≡ walk ts (flat on_item)
    rest = ap (λ (us : List Token). walk us (flat after_name))
        (append_assoc (comma_tokens ns.more) (mark (ascii ";") ∷ []) ts) ∙ walk-names ns.more
        (mark (ascii ";") ∷ ts)

    go : (k : Kind) → walk (declaration_tokens (record { kind = k; names = ns }) ++ ts) (flat on_item)
        ≡ walk ts (flat on_item)
    go input = rest
    go output = rest
    go wire = rest

walk-declarations : (ds : List Declaration) (ts : List Token) → walk (each_tokens declaration_tokens ds ++ ts)
    (flat on_item) ≡ walk ts (flat on_item)
walk-declarations [] ts = refl
walk-declarations (d ∷ ds) ts =
    ap (λ (us : List Token). walk us (flat on_item)) (append_assoc (declaration_tokens d)
    (each_tokens declaration_tokens ds) ts)
    ∙ walk-declaration d.kind d.names (each_tokens declaration_tokens ds ++ ts)
    ∙ walk-declarations ds ts

walk-items : (xs : List Assign) → walk (assigns_left xs []) (flat on_item) ≡ walk (assigns_left xs []) (flat on_assign)
unfolding walk
walk-items [] = refl
walk-items (a ∷ xs) = refl

walk-head : (w v : List ℕ) (ws : List (List ℕ)) (ts : List Token)
    → walk (mark (ascii "module") ∷ name w ∷ mark (ascii "(") ∷ ports_left (v ∷ ws) ts)
    (flat on_module) ≡ walk ts (flat on_item)
unfolding walk
walk-head w v ws ts = walk-ports ws (mark (ascii ")") ∷ mark (ascii ";") ∷ ts)

walk-module : (m : Module) → walk (module_tokens m) (flat on_module) ≡ walk (assigns_left m.assigns []) (flat on_assign)
walk-module m =
    ap (λ (us : List Token). walk us (flat on_module)) (module-parts m)
    ∙ walk-head m.title m.ports.first m.ports.more (items_left m)
    ∙ walk-declarations m.declarations (assigns_left m.assigns [])
    ∙ walk-items m.assigns

-- the recogniser comes to a good end over the assignments
pub assigns-accepted : (t : List ℕ) (m : Module) → Stands m t → Accepts (assigns_left m.assigns []) (flat on_assign)
unfolding accepted
assigns-accepted t m S =
    let a : well_ended (if_some (tokens t) (λ ts. walk ts (flat on_module))) ≡ true = recognised t
    ∙ ap is_tree (parse-complete t m S) in
    let b : well_ended (walk (module_tokens m) (flat on_module)) ≡ true
    = sym (ap (λ (o : Option (List Token)). well_ended
    (if_some o (λ ts. walk ts (flat on_module)))) S.written) ∙ a in
    true-T (well_ended (walk (assigns_left m.assigns []) (flat on_assign))) (sym (ap well_ended (walk-module m)) ∙ b)

-- where no assignment follows, the module ends
pub end-only : (rest : List Token) → Accepts rest (flat on_assign)
    → ((us : List Token) → rest ≡ mark (ascii "assign") ∷ us → ⊥) → rest ≡ mark (ascii "endmodule") ∷ []
unfolding walk
end-only [] a f = absurd a
end-only (name w ∷ us) a f = absurd a
end-only (mark k ∷ us) a f = on_bool (same_bytes k (ascii "assign"))
    (λ e. absurd (f us (ap (λ (x : List ℕ). mark x ∷ us) (same-equal k (ascii "assign") e))))
    (λ e. on_bool (same_bytes k (ascii "endmodule"))
    (λ h. ap (λ (x : List ℕ). mark x ∷ us) (same-equal k (ascii "endmodule") h)
    ∙ ap (λ (xs : List Token). mark (ascii "endmodule") ∷ xs) (nothing us (rw (e, h) at a)))
    (λ h. absurd (rw (e, h) at a)))
  where
    nothing : (us : List Token) → Accepts us (flat on_nothing) → us ≡ []
    nothing [] a = refl
    nothing (name w ∷ us) a = absurd a
    nothing (mark k ∷ us) a = absurd a

-- the assignments of a text are those of its tree
pub assigns-same : (t : List ℕ) (m : Module) → Stands m t → (xs : List Assign) → assigns_left xs []
    ≡ assigns_left m.assigns [] → xs ≡ m.assigns
assigns-same t m S xs e =
    let m' : Module = record { title = m.title; ports = m.ports; declarations = m.declarations; assigns = xs } in
    let w : module_tokens m ≡ module_tokens m' = module-parts m
    ∙ ap (λ (ts : List Token). mark (ascii "module") ∷ name m.title ∷ mark (ascii "(") ∷ ports_left (all_names m.ports)
    (each_tokens declaration_tokens m.declarations ++ ts)) (sym e)
    ∙ sym (module-parts m') in
    ap (λ (n : Module). n.assigns) (unambiguous t m' m (record { written = S.written ∙ ap some w }) S)
