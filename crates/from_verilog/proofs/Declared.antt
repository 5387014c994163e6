-- The declared names of a module in text order, each with its kind, and the lists of question 17.
use Prim.Native.Nat.{ℕ, ◌+◌, ◌≤◌, ◌<◌}
use mathlib.Core.Path.{◌≡◌, refl, sym, ap, ap₂, ◌∙◌}
use mathlib.Core.Bool.{Bool, true, false, cond, not, ◌&&◌, ◌||◌}
use mathlib.Core.List.{List, [], ◌∷◌, ◌++◌, append_assoc, append-nil}
use native.Mathlib.Omega.{arith}
use lib.Dec.{T, eqb}
use lib.ListN.{length, length-append}
use borrow.Author.Tests.{eq-eqb, eqb-true, eqb-false}
use Rattle.netlist.specs.Lists.{same_bytes, ascii}
use Rattle.netlist.proofs.Tests.{on_bool, is_true, true-T}
use Rattle.verilog.specs.Tokens.{Token, name, mark, elem}
use Rattle.verilog.specs.Syntax.{Names, Kind, input, output, wire, Declaration, Assign, Module, comma_tokens}
use Rattle.verilog.specs.Syntax.{names_tokens, kind_word, declaration_tokens, assign_tokens, each_tokens, module_tokens}
use Rattle.verilog.specs.Rules.{distinct, all_names, declared_as, inputs, outputs, wires}
use Rattle.verilog.specs.EachName.{times}
use Rattle.verilog.specs.Equations.{Entry, entry}
use Rattle.verilog.proofs.NameByName.{times_none, times-some, distinct-times, times-distinct}
use Rattle.verilog.proofs.Listing.{same-equal}
use Rattle.verilog.proofs.Naming.{elem-here}
use Rattle.verilog.proofs.Room.{declared_count}
use Rattle.from_verilog.proofs.Firsts.{never}
use Rattle.from_verilog.specs.Names.{names_of}
use Rattle.from_verilog.specs.Wires.{wire_of}
use Rattle.from_verilog.specs.Stages.{declared_from, after_declared, keys, kinds, fresh, Loaded}
use Rattle.from_verilog.specs.Ports.{ports_left}
use Rattle.from_verilog.specs.Settled.{assigns_left}
use Rattle.from_verilog.proofs.Entries.{Once, valued, valued-append, keys-append, entries_in, entries-are, value_in}

abbrev pub kind_number : Kind → ℕ
kind_number input = 1
kind_number output = 2
kind_number wire = 3

abbrev pub entries_for : ℕ → List (List ℕ) → List (Entry ℕ)
entries_for κ [] = []
entries_for κ (w ∷ ws) = entry w κ ∷ entries_for κ ws

abbrev pub entries_of : List Declaration → List (Entry ℕ)
entries_of [] = []
entries_of (d ∷ ds) = entries_for (kind_number d.kind) (all_names d.names) ++ entries_of ds

-- ---- the tokens of a module, part by part

regroup : (a b c : List Token) → (a ++ b) ++ c ≡ a ++ (b ++ c)
regroup a b c = append_assoc a b c

abbrev pub items_left : Module → List Token
items_left m = each_tokens declaration_tokens m.declarations ++ assigns_left m.assigns []

pub module-parts : (m : Module) → module_tokens m ≡ mark (ascii "module") ∷ name m.title ∷ mark (ascii "(") ∷ ports_left
    (all_names m.ports) (items_left m)
module-parts m = ap (λ (ts : List Token). mark (ascii "module") ∷ name m.title ∷ mark (ascii "(") ∷ name m.ports.first ∷
    ts)
    (go (comma_tokens m.ports.more) (each_tokens declaration_tokens m.declarations)
    (each_tokens assign_tokens m.assigns) (mark (ascii "endmodule") ∷ []))
  where
    go : (a b c d : List Token) → ((a ++ (mark (ascii ")") ∷ mark (ascii ";") ∷ b)) ++ c) ++ d ≡ a
        ++ (mark (ascii ")") ∷ mark (ascii ";") ∷ (b ++ (c ++ d)))
    go a b c d =
        regroup (a ++ (mark (ascii ")") ∷ mark (ascii ";") ∷ b)) c d
        ∙ regroup a (mark (ascii ")") ∷ mark (ascii ";") ∷ b) (c ++ d)

-- ---- declarations

commas-declared : (κ : ℕ) (ws : List (List ℕ)) (ts : List Token) → declared_from κ (comma_tokens ws ++ ts)
    ≡ entries_for κ ws ++ declared_from κ ts
unfolding declared_from
commas-declared κ [] ts = refl
commas-declared κ (w ∷ ws) ts = ap (λ (es : List (Entry ℕ)). entry w κ ∷ es) (commas-declared κ ws ts)

commas-following : (ws : List (List ℕ)) (ts : List Token) → after_declared (comma_tokens ws ++ ts) ≡ after_declared ts
unfolding after_declared
commas-following [] ts = refl
commas-following (w ∷ ws) ts = commas-following ws ts

end-declared : (κ : ℕ) (ts : List Token) → declared_from κ (mark (ascii ";") ∷ ts) ≡ declared_from κ ts
unfolding declared_from
end-declared κ ts = refl

names-declared : (κ : ℕ) (ns : Names) (ts : List Token) → declared_from κ ((names_tokens ns ++ mark (ascii ";") ∷ [])
    ++ ts) ≡ entries_for κ (all_names ns) ++
    declared_from κ ts
unfolding declared_from
names-declared κ ns ts = ap (λ (es : List (Entry ℕ)). entry ns.first κ ∷ es)
    (ap (declared_from κ) (regroup (comma_tokens ns.more) (mark (ascii ";") ∷ []) ts)
    ∙ commas-declared κ ns.more (mark (ascii ";") ∷ ts)
    ∙ ap (λ (es : List (Entry ℕ)). entries_for κ ns.more ++ es) (end-declared κ ts))

one-declared : (κ : ℕ) (k : Kind) (ns : Names) (ts : List Token)
    → declared_from κ (declaration_tokens (record { kind = k; names = ns }) ++ ts) ≡ entries_for (kind_number k)
    (all_names ns) ++ declared_from (kind_number k) ts
unfolding declared_from
one-declared κ input ns ts = names-declared 1 ns ts
one-declared κ output ns ts = names-declared 2 ns ts
one-declared κ wire ns ts = names-declared 3 ns ts

names-following : (ns : Names) (ts : List Token) → after_declared ((names_tokens ns ++ mark (ascii ";") ∷ []) ++ ts)
    ≡ after_declared ts
unfolding after_declared
names-following ns ts = ap after_declared (regroup (comma_tokens ns.more) (mark (ascii ";") ∷ []) ts)
    ∙ commas-following ns.more (mark (ascii ";") ∷ ts)

one-following : (k : Kind) (ns : Names) (ts : List Token) → after_declared
    (declaration_tokens (record { kind = k; names = ns }) ++ ts) ≡ after_declared ts
unfolding after_declared
one-following input ns ts = names-following ns ts
one-following output ns ts = names-following ns ts
one-following wire ns ts = names-following ns ts

all-declared : (κ : ℕ) (ds : List Declaration) (ts : List Token) → ((κ' : ℕ) → declared_from κ' ts ≡ [])
    → declared_from κ (each_tokens declaration_tokens ds ++ ts)
    ≡ entries_of ds
all-declared κ [] ts h = h κ
all-declared κ (d ∷ ds) ts h =
    ap (declared_from κ) (regroup (declaration_tokens d) (each_tokens declaration_tokens ds) ts)
    ∙ one-declared κ d.kind d.names (each_tokens declaration_tokens ds ++ ts)
    ∙ ap (λ (es : List (Entry ℕ)). entries_for (kind_number d.kind) (all_names d.names) ++ es)
    (all-declared (kind_number d.kind) ds ts h)

all-following : (ds : List Declaration) (ts : List Token) → after_declared (each_tokens declaration_tokens ds ++ ts)
    ≡ after_declared ts
all-following [] ts = refl
all-following (d ∷ ds) ts =
    ap after_declared (regroup (declaration_tokens d) (each_tokens declaration_tokens ds) ts)
    ∙ one-following d.kind d.names (each_tokens declaration_tokens ds ++ ts)
    ∙ all-following ds ts

assigns-declared : (xs : List Assign) (rest : List Token) (κ : ℕ) → declared_from κ (assigns_left xs rest) ≡ []
unfolding declared_from
assigns-declared [] rest κ = refl
assigns-declared (a ∷ xs) rest κ = refl

assigns-following : (xs : List Assign) (rest : List Token) → after_declared (assigns_left xs rest)
    ≡ assigns_left xs rest
unfolding after_declared
assigns-following [] rest = refl
assigns-following (a ∷ xs) rest = refl

pub items-declared : (m : Module) → declared_from 0 (items_left m) ≡ entries_of m.declarations
items-declared m = all-declared 0 m.declarations (assigns_left m.assigns []) (assigns-declared m.assigns [])

pub items-following : (m : Module) → after_declared (items_left m) ≡ assigns_left m.assigns []
items-following m = all-following m.declarations (assigns_left m.assigns []) ∙ assigns-following m.assigns []

-- ---- kinds

kind-same : (k κ : Kind) → eqb (kind_number κ) (kind_number k) ≡ same_bytes (kind_word k) (kind_word κ)
kind-same input input = refl
kind-same input output = refl
kind-same input wire = refl
kind-same output input = refl
kind-same output output = refl
kind-same output wire = refl
kind-same wire input = refl
kind-same wire output = refl
kind-same wire wire = refl

pub elem-or : (w : List ℕ) (us vs : List (List ℕ)) → elem w (us ++ vs) ≡ (elem w us || elem w vs)
elem-or w [] vs = refl
elem-or w (u ∷ us) vs = ap (λ (b : Bool). same_bytes w u || b) (elem-or w us vs) ∙ assoc (same_bytes w u) (elem w us)
    (elem w vs)
  where
    assoc : (a b c : Bool) → (a || (b || c)) ≡ ((a || b) || c)
    assoc true b c = refl
    assoc false b c = refl

valued-for : (c κ : ℕ) (w : List ℕ) (ws : List (List ℕ)) → valued c w (entries_for κ ws) ≡ (elem w ws && eqb κ c)
valued-for c κ w [] = refl
valued-for c κ w (v ∷ ws) = ap (λ (b : Bool). (same_bytes w v && eqb κ c) || b) (valued-for c κ w ws)
    ∙ go (same_bytes w v) (elem w ws) (eqb κ c)
  where
    go : (a b e : Bool) → ((a && e) || (b && e)) ≡ ((a || b) && e)
    go true b true = refl
    go true true false = refl
    go true false false = refl
    go false b e = refl

declared-kind : (k : Kind) (w : List ℕ) (ds : List Declaration) → valued (kind_number k) w (entries_of ds)
    ≡ elem w (declared_as k ds)
declared-kind k w [] = refl
declared-kind k w (d ∷ ds) =
    let ns = all_names d.names in
    let b = same_bytes (kind_word k) (kind_word d.kind) in
    valued-append (kind_number k) w (entries_for (kind_number d.kind) ns) (entries_of ds)
    ∙ ap₂ ◌||◌ (valued-for (kind_number k) (kind_number d.kind) w ns ∙ ap (λ (x : Bool). elem w ns && x)
    (kind-same k d.kind)) (declared-kind k w ds)
    ∙ on_bool b
    (λ e. ap (λ (x : Bool). (elem w ns && x) || elem w (declared_as k ds)) e
    ∙ ap (λ (x : Bool). x || elem w (declared_as k ds)) (and-true (elem w ns))
    ∙ sym (elem-or w ns (declared_as k ds))
    ∙ sym (ap (λ (x : Bool). elem w (cond x (ns ++ declared_as k ds) (declared_as k ds))) e))
    (λ e. ap (λ (x : Bool). (elem w ns && x) || elem w (declared_as k ds)) e
    ∙ ap (λ (x : Bool). x || elem w (declared_as k ds)) (and-false (elem w ns))
    ∙ sym (ap (λ (x : Bool). elem w (cond x (ns ++ declared_as k ds) (declared_as k ds))) e))
  where
    and-true : (x : Bool) → (x && true) ≡ x
    and-true true = refl
    and-true false = refl

    and-false : (x : Bool) → (x && false) ≡ false
    and-false true = refl
    and-false false = refl

kinds-low : (c : ℕ) (w : List ℕ) (ds : List Declaration) → valued c w (entries_of ds) ≡ true → c ≤ 3
kinds-low c w [] e = absurd (never (sym e))
kinds-low c w (d ∷ ds) e =
    let ns = all_names d.names in
    let s = sym (valued-append c w (entries_for (kind_number d.kind) ns) (entries_of ds)) ∙ e in
    on_bool (eqb (kind_number d.kind) c)
    (λ h. let q = eqb-true (kind_number d.kind) c h in let l = low d.kind in omega (arith, q, l))
    (λ h. let f : valued c w (entries_for (kind_number d.kind) ns) ≡ false = valued-for c (kind_number d.kind) w ns
    ∙ ap (λ (x : Bool). elem w ns && x) h ∙
    and-false (elem w ns) in
    kinds-low c w ds (sym (ap (λ (x : Bool). x || valued c w (entries_of ds)) f) ∙ s))
  where
    low : (k : Kind) → kind_number k ≤ 3
    low input = omega arith
    low output = omega arith
    low wire = omega arith

    and-false : (x : Bool) → (x && false) ≡ false
    and-false true = refl
    and-false false = refl

-- ---- each once

pub bool_same : (a b : Bool) → (T a → T b) → (T b → T a) → a ≡ b
bool_same true true f g = refl
bool_same true false f g = absurd (f tt)
bool_same false true f g = absurd (g tt)
bool_same false false f g = refl

pub times-append : (w : List ℕ) (us vs : List (List ℕ)) → times w (us ++ vs) ≡ times w us + times w vs
times-append w [] vs = omega arith
times-append w (u ∷ us) vs = let h = times-append w us vs in on_bool (same_bytes w u) (λ e. rw e (omega (arith, h)))
    (λ e. rw e h)

distinct-same : (us vs : List (List ℕ)) → ((w : List ℕ) → times w us ≡ times w vs) → distinct us ≡ distinct vs
distinct-same us vs f = bool_same (distinct us) (distinct vs)
    (λ t. times-distinct vs (λ w. let a = distinct-times us t w in let b = f w in omega (arith, a, b)))
    (λ t. times-distinct us (λ w. let a = distinct-times vs t w in let b = f w in omega (arith, a, b)))

fresh-distinct : (ps ws : List (List ℕ)) → T (distinct ps) → fresh ps ws ≡ distinct (ps ++ ws)
unfolding fresh
fresh-distinct ps [] d = sym (ap distinct (append-nil ps) ∙ is_true (distinct ps) d)
fresh-distinct ps (w ∷ ws) d = on_bool (elem w ps)
    (λ e. ap (λ (b : Bool). not b && fresh (ps ++ w ∷ []) ws) e ∙ sym (on_bool (distinct (ps ++ w ∷ ws))
    (λ q. let a = distinct-times (ps ++ w ∷ ws) (true-T (distinct (ps ++ w ∷ ws)) q) w in
    let b = times-append w ps (w ∷ ws) in
    let c = times-some w ps (true-T (elem w ps) e) in
    let k = times-some w (w ∷ ws) (here w ws) in
    absurd (omega (arith, a, b, c, k)))
    (λ q. q)))
    (λ e. ap (λ (b : Bool). not b && fresh (ps ++ w ∷ []) ws) e ∙ fresh-distinct (ps ++ w ∷ []) ws (more e)
    ∙ ap distinct (append_assoc ps (w ∷ []) ws))
  where
    here : (w : List ℕ) (ws : List (List ℕ)) → T (elem w (w ∷ ws))
    here w ws = elem-here w ws

    more : elem w ps ≡ false → T (distinct (ps ++ w ∷ []))
    more e = times-distinct (ps ++ w ∷ []) (λ v.
        let a = times-append v ps (w ∷ []) in
        let b = distinct-times ps d v in
        on_bool (same_bytes v w)
        (λ q. let z = times_none w ps e in
        let y : times v ps ≡ 0 = ap (λ (x : List ℕ). times x ps) (same-equal v w q) ∙ z in
        let o : times v (w ∷ []) ≡ 1 = rw q refl in
        omega (arith, a, y, o))
        (λ q. let o : times v (w ∷ []) ≡ 0 = rw q refl in omega (arith, a, b, o)))

keys-for : (κ : ℕ) (ws : List (List ℕ)) → keys (entries_for κ ws) ≡ ws
keys-for κ [] = refl
keys-for κ (w ∷ ws) = ap (λ (xs : List (List ℕ)). w ∷ xs) (keys-for κ ws)

pub times-declared : (w : List ℕ) (ds : List Declaration) → times w (keys (entries_of ds))
    ≡ times w (declared_as input ds) + times w (declared_as output ds) +
    times w (declared_as wire ds)
times-declared w [] = refl
times-declared w (d ∷ ds) =
    let h = times-declared w ds in
    let ns = all_names d.names in
    let a : times w (keys (entries_of (d ∷ ds))) ≡ times w ns + times w (keys (entries_of ds)) =
    ap (times w) (keys-append (entries_for (kind_number d.kind) ns) (entries_of ds)
    ∙ ap (λ (xs : List (List ℕ)). xs ++ keys (entries_of ds))
    (keys-for (kind_number d.kind) ns)) ∙ times-append w ns (keys (entries_of ds)) in
    go d.kind d.names h a
  where
    go : (k : Kind) (ns : Names) → times w (keys (entries_of ds)) ≡ times w (declared_as input ds) + times w
        (declared_as output ds) + times w (declared_as wire ds)
        → times w (keys (entries_of (d ∷ ds))) ≡ times w (all_names ns) + times w (keys (entries_of ds))
        → times w (keys (entries_of (d ∷ ds))) ≡ times w (declared_as input (record { kind = k; names = ns } ∷ ds)) +
        times w
        (declared_as output (record { kind = k; names = ns } ∷ ds)) + times w
        (declared_as wire (record { kind = k; names = ns } ∷ ds))
    go input ns h a = let b = times-append w (all_names ns) (declared_as input ds) in omega (arith, h, a, b)
    go output ns h a = let b = times-append w (all_names ns) (declared_as output ds) in omega (arith, h, a, b)
    go wire ns h a = let b = times-append w (all_names ns) (declared_as wire ds) in omega (arith, h, a, b)

pub fresh-once : (m : Module) → fresh [] (keys (entries_of m.declarations))
    ≡ distinct (inputs m ++ outputs m ++ wires m)
fresh-once m =
    let ks = keys (entries_of m.declarations) in
    fresh-distinct [] ks tt ∙ distinct-same ks (inputs m ++ outputs m ++ wires m) (λ w.
    let a = times-declared w m.declarations in
    let b = times-append w (inputs m ++ outputs m) (wires m) in
    let c = times-append w (inputs m) (outputs m) in
    omega (arith, a, b, c))

length-for : (κ : ℕ) (ws : List (List ℕ)) → length (entries_for κ ws) ≡ length ws
length-for κ [] = refl
length-for κ (w ∷ ws) = let h = length-for κ ws in omega (arith, h)

pub count-declared : (ds : List Declaration) → length (entries_of ds) ≡ declared_count ds
count-declared [] = refl
count-declared (d ∷ ds) =
    let a = length-append (entries_for (kind_number d.kind) (all_names d.names)) (entries_of ds) in
    let b = length-for (kind_number d.kind) (all_names d.names) in
    let h = count-declared ds in
    omega (arith, a, b, h)

-- ---- the tables

module _ {t words st : List ℕ} {count place : ℕ} (m : Module) (L : Loaded t words st count place (items_left m))
    (room : count ≤ length st) where
  pub loaded-names : names_of t words count ≡ keys (entries_of m.declarations)
  loaded-names = L.names ∙ ap keys (items-declared m)

  pub loaded-once : Once t words count
  loaded-once = ap (fresh []) L.names ∙ L.once

  entries-loaded : entries_in t words st count ≡ entries_of m.declarations
  entries-loaded = entries-are t words st count (entries_of m.declarations) room loaded-names
      (L.states ∙ ap kinds (items-declared m))

  -- the state of a name says how it is declared
  pub loaded-kind : (k : Kind) (w : List ℕ) → eqb (wire_of t words st count w) (kind_number k)
      ≡ elem w (declared_as k m.declarations)
  loaded-kind k w = value_in t words st (kind_number k) w (some k) count loaded-once ∙ ap (valued (kind_number k) w)
      entries-loaded ∙ declared-kind k w m.declarations
    where
      some : (k : Kind) → 0 < kind_number k
      some input = omega arith
      some output = omega arith
      some wire = omega arith

  pub loaded-low : (w : List ℕ) → wire_of t words st count w ≤ 3
  loaded-low w =
      let c = wire_of t words st count w in
      on_bool (eqb c 0)
      (λ e. let z = eqb-true c 0 e in omega (arith, z))
      (λ e. let z = eqb-false c 0 e in
      kinds-low c w m.declarations (sym (value_in t words st c w (omega (arith, z)) count loaded-once
      ∙ ap (valued c w) entries-loaded) ∙ eq-eqb c c refl))
