-- The stages of question 17 put together.
use Prim.Native.Nat.{ℕ, ◌*◌, ◌≤◌, ◌<◌}
use mathlib.Core.Path.{◌≡◌, refl, sym, ap, ap₂, subst, ◌∙◌}
use mathlib.Core.Bool.{Bool, true, false, ◌&&◌}
use mathlib.Core.List.{List, [], ◌∷◌, ◌++◌}
use mathlib.Core.Option.{some}
use native.Mathlib.Omega.{arith}
use lib.Dec.{T, eqb, leb}
use lib.ListN.{length, drop, get_or, replicate}
use borrow.Author.Tests.{le-leb}
use Rattle.netlist.specs.Lists.{ascii}
use Rattle.netlist.specs.Table.{half}
use Rattle.netlist.proofs.Tests.{on_bool, is_true, true-T}
use Rattle.verilog.specs.Tokens.{Token, name, mark, elem, tokens}
use Rattle.verilog.specs.Syntax.{Module, Stands, comma_tokens}
use Rattle.verilog.specs.Rules.{distinct, all_names, inputs, outputs, wires, rules_kept}
use Rattle.verilog.specs.Equations.{Entry}
use Rattle.verilog.proofs.Naming.{Kept, kept, rules}
use Rattle.verilog.proofs.Room.{names-quarter}
use Rattle.from_verilog.specs.Next.{TokenAt}
use Rattle.from_verilog.proofs.Firsts.{never}
use Rattle.from_verilog.specs.Names.{newest, Chained}
use Rattle.from_verilog.specs.Wires.{wire_of}
use Rattle.from_verilog.specs.Stages.{declared_from, keys, fresh, Loaded, AllDeclared, NotDeclared}
use Rattle.from_verilog.specs.Ports.{seat_all, unseated, ports_left, Ported, PortsSay}
use Rattle.from_verilog.proofs.Seating.{known}
use Rattle.from_verilog.specs.Parts.{names_pass, after_end, any, PastIs}
use Rattle.from_verilog.specs.Settled.{settle_all, unsettled, assigns_left, AssignsSay}
use Rattle.std.specs.Prelude.{Some, None}
use Rattle.from_verilog.specs.Kept.{PlaceIs, ports_done, PortsKept, assigns_done, AssignsKept, RulesAre}
use Rattle.from_verilog.proofs.Declared.{items_left, module-parts, items-declared, items-following, fresh-once}
use Rattle.from_verilog.proofs.Declared.{count-declared}
use Rattle.from_verilog.proofs.Ruling.{get_d-zeros, wire-zero, target_found, kept-ported, good-ported, ported-good}
use Rattle.from_verilog.proofs.Ruling.{ported-inputs, ported-outputs, ported-wires, kept-settled, settled-kept}
use Rattle.from_verilog.proofs.Ruling.{settled-outputs}

-- ---- places

pub place_is : {t : List ℕ} {c₁ f₁ t₁ c₂ f₂ t₂ c₃ f₃ t₃ : ℕ} → TokenAt t 0 c₁ f₁ t₁ → TokenAt t t₁ c₂ f₂ t₂
    → TokenAt t t₂ c₃ f₃ t₃ → PlaceIs t t₃
place_is A B C = record {
  within = C.within;
  gives = λ w ts e. (known C (mark (ascii "(")) ts (known B (name w) (mark (ascii "(") ∷ ts)
      (known A (mark (ascii "module")) (name w ∷ mark (ascii "(") ∷ ts) e).1).1).1;
}

commas-pass : (ws : List (List ℕ)) (ts : List Token) → names_pass any (comma_tokens ws ++ ts) ≡ names_pass any ts
unfolding names_pass
commas-pass [] ts = refl
commas-pass (w ∷ ws) ts = commas-pass ws ts

commas-end : (ws : List (List ℕ)) (ts : List Token) → after_end (comma_tokens ws ++ ts) ≡ after_end ts
unfolding after_end
commas-end [] ts = refl
commas-end (w ∷ ws) ts = commas-end ws ts

ports-pass : (w : List ℕ) (ws : List (List ℕ)) (rest : List Token) → names_pass any (ports_left (w ∷ ws) rest) ≡ true
unfolding names_pass
ports-pass w ws rest = commas-pass ws (mark (ascii ")") ∷ mark (ascii ";") ∷ rest)

ports-end : (w : List ℕ) (ws : List (List ℕ)) (rest : List Token) → after_end (ports_left (w ∷ ws) rest) ≡ rest
unfolding after_end
ports-end w ws rest = commas-end ws (mark (ascii ")") ∷ mark (ascii ";") ∷ rest)

module _ {t : List ℕ} {at items : ℕ} (A : PlaceIs t at) (B : PastIs t at items) (m : Module) (S : Stands m t) where
  ports-at : tokens (drop at t) ≡ some (ports_left (all_names m.ports) (items_left m))
  ports-at = A.gives m.title (ports_left (all_names m.ports) (items_left m)) (S.written ∙ ap some (module-parts m))

  items_at : tokens (drop items t) ≡ some (items_left m)
  items_at = B.gives (ports_left (all_names m.ports) (items_left m)) ports-at
      (ports-pass m.ports.first m.ports.more (items_left m)) ∙ ap some
      (ports-end m.ports.first m.ports.more (items_left m))

-- ---- the answers of the parts

and-false : (x : Bool) → (x && false) ≡ false
and-false true = refl
and-false false = refl

-- ---- the tables at the start

pub chained-start : (t heads words links : List ℕ) (size : ℕ) → 0 < size → size ≤ length heads → heads
    ≡ replicate (length heads) 0 → length t < half → Chained
    t heads words links size 0
unfolding newest
chained-start t heads words links size s l z h = record {
  headed = λ k q. ap (λ (xs : List ℕ). get_or xs k 0) z ∙ get_d-zeros (length heads) k;
  older = λ i q. absurd (omega (arith, q));
  places = λ i q. absurd (omega (arith, q));
  some = s;
  sized = l;
  worded = omega arith;
  linked = omega arith;
  short = h;
}

-- ---- the answers

refused : (m : Module) → (Kept m → ⊥) → rules_kept m ≡ false
refused m f = on_bool (rules_kept m) (λ e. absurd (f (kept m (true-T (rules_kept m) e)))) (λ e. e)

module _ {t : List ℕ} {at items : ℕ} (A : PlaceIs t at) (B : PastIs t at items) where
  pub rules-undeclared : {size most : ℕ} {heads words links st ws : List ℕ} → NotDeclared t items most
      → length t ≤ 4 * most →
      RulesAre t size heads words links st ws None
  rules-undeclared {most = most} N l = record {
    gives = λ m S.
        refused m (λ K.
        let F : fresh [] (keys (declared_from 0 (items_left m))) ≡ true
        = ap (λ (es : List (Entry ℕ)). fresh [] (keys es)) (items-declared m) ∙ fresh-once m ∙
        is_true (distinct (inputs m ++ outputs m ++ wires m)) K.declared_once in
        let c = ap length (items-declared m) in
        let d = count-declared m.declarations in
        let q = names-quarter K t S in
        let G : leb (length (declared_from 0 (items_left m))) most ≡ true
        = le-leb (length (declared_from 0 (items_left m))) most (omega (arith, c, d, q, l)) in
        never (sym (ap₂ ◌&&◌ F G) ∙ N.gives (items_left m) (items_at A B m S)));
  }

  module _ {size most count place : ℕ} {heads words links st₁ ws₁ st₂ ws₂ : List ℕ} {p : Ported}
      (D : AllDeclared t items size most heads words links st₁ count place) (ls : count ≤ length st₁)
      (lw : count ≤ length ws₁)
      (P : PortsKept t words count at st₁ st₂ ws₁ ws₂ p) where
    loaded : (m : Module) → Stands m t → Loaded t words st₁ count place (items_left m)
    loaded m S = D.gives (items_left m) (items_at A B m S)

    said : (m : Module) → Stands m t
        → PortsSay (ports_done count (seat_all t words count (unseated st₁ ws₁) (all_names m.ports))) st₂ ws₂ p
    said m S = P.gives (all_names m.ports) (items_left m) (ports-at A B m S)

    pub rules-unported : {words' links' st ws : List ℕ} → p.good ≡ false → RulesAre t size heads words' links' st ws
        None
    rules-unported e = record {
      gives = λ m S.
          let L = loaded m S in
          refused m (λ K. never (sym (ported-good m L ls ws₁ lw (kept-ported m L ls ws₁ lw K)) ∙ sym (said m S).said
          ∙ e));
    }

    module _ {st₃ : List ℕ} {b : Bool} (e : p.good ≡ true) (Q : AssignsKept t words count place st₂ st₃ b)
        (zero : ws₁ ≡ replicate (length ws₁) 0)
        (l₃ : count ≤ length st₃) (l₂ : count ≤ length ws₂) where
      assigns-at : (m : Module) → Stands m t → tokens (drop place t) ≡ some (assigns_left m.assigns [])
      assigns-at m S = (loaded m S).left ∙ ap some (items-following m)

      settled_at : (m : Module) (S : Stands m t) → AssignsSay (assigns_done count
          (settle_all t words count (unsettled (seat_all t words count (unseated st₁ ws₁) (all_names m.ports)).states)
          m.assigns)) st₃ b
      settled_at m S = subst
          (λ (xs : List ℕ). AssignsSay (assigns_done count (settle_all t words count (unsettled xs) m.assigns)) st₃ b)
          ((said m S).states e)
          (Q.gives m.assigns [] (assigns-at m S))

      once : (m : Module) → Stands m t → T (distinct (inputs m ++ outputs m ++ wires m))
      once m S = true-T (distinct (inputs m ++ outputs m ++ wires m)) (sym (fresh-once m) ∙ sym
          (ap (λ (es : List (Entry ℕ)). fresh [] (keys es)) (items-declared m)) ∙ (loaded m S).once)

      pub rules-unsettled : {words' links' st ws : List ℕ} → b ≡ false → RulesAre t size heads words' links' st ws None
      rules-unsettled q = record {
        gives = λ m S.
            let L = loaded m S in
            let Z = said m S in
            let R = good-ported m L ls ws₁ lw (sym Z.said ∙ e) in
            refused m (λ K. never (sym (kept-settled m L ls ws₁ lw R K) ∙ sym (settled_at m S).said ∙ q));
      }

      pub rules-settled : b ≡ true → RulesAre t size heads words links st₃ ws₂ (Some (record {
        count = count;
        inputs = p.inputs;
        outputs = p.outputs;
        ports = at;
        assigns = place;
      }))
      rules-settled q = record {
        gives = λ m S.
            let L = loaded m S in
            let Z = said m S in
            let W = settled_at m S in
            let R = good-ported m L ls ws₁ lw (sym Z.said ∙ e) in
            let X = settle_all t words count
            (unsettled (seat_all t words count (unseated st₁ ws₁) (all_names m.ports)).states) m.assigns in
            let g : (assigns_done count X).good ≡ true = sym W.said ∙ q in
            let n : count ≤ length X.states = subst (λ (xs : List ℕ). count ≤ length xs) (W.states q) l₃ in (
              is_true (rules_kept m) (rules m (settled-kept m L ls ws₁ lw R g n (once m S))),
              record {
                names = D.names;
                stated = l₃;
                wired = l₂;
                input_wires = λ v. ap (λ (xs : List ℕ). wire_of t words xs count v) (Z.wires e)
                    ∙ ported-wires m L ls ws₁ lw R
                    (wire-zero t words ws₁ count (length ws₁) zero) v;
                output_names = λ v. ap (λ (xs : List ℕ). eqb (wire_of t words xs count v) 6) (W.states q)
                    ∙ settled-outputs m L ls ws₁ lw R g n v;
                targets = λ v h. target_found m L ls v (true-T (elem v (outputs m ++ wires m)) h);
                inputs = Z.inputs e ∙ ported-inputs m L ls ws₁ lw R;
                outputs = Z.outputs e ∙ ported-outputs m L ls ws₁ lw R;
                ports_within = A.within;
                assigns_within = D.within;
                items = items_left m;
                ports_at = ports-at A B m S;
                assigns_at = assigns-at m S;
              },
            );
      }
