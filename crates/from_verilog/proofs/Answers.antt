-- The answers on a whole text.
use Prim.Native.Nat.{ℕ, ◌+◌, ◌≤◌, ◌<◌}
use mathlib.Core.Path.{◌≡◌, refl, sym, ap, subst, ◌∙◌}
use mathlib.Core.Bool.{Bool, true, false}
use mathlib.Core.List.{List, [], ◌∷◌}
use mathlib.Core.Option.{Option, none, some}
use native.Mathlib.Omega.{arith}
use lib.ListN.{length}
use borrow.Author.Tests.{le-leb, lt-leb}
use Rattle.netlist.specs.declared.Limits.{Limits}
use Rattle.netlist.specs.Outcome.{refused, done, ask}
use Rattle.netlist.specs.Header.{within_limits}
use Rattle.netlist.specs.Read.{header_of}
use Rattle.netlist.specs.Table.{Tables, half, gates_of, Wired}
use Rattle.netlist.proofs.Tests.{true-T}
use Rattle.netlist.proofs.Questions.{some_same}
use Rattle.netlist.proofs.Order.{ordered-length}
use Rattle.verilog.specs.Tokens.{Token}
use Rattle.verilog.specs.Syntax.{Module, Stands, module_tokens}
use Rattle.verilog.specs.Parse.{parse}
use Rattle.verilog.specs.Depth.{assigns_depth, max_depth, shallow}
use Rattle.verilog.specs.Rules.{rules_kept}
use Rattle.verilog.specs.Equations.{input_ports}
use Rattle.verilog.specs.Made.{built, netlist_made}
use Rattle.verilog.specs.Walk.{flat, on_module, deepest, operators_in}
use Rattle.verilog.specs.Call.{made_outcome, read_equations}
use Rattle.verilog.proofs.Parsing.{parse-sound}
use Rattle.verilog.proofs.Naming.{kept}
use Rattle.verilog.proofs.Making.{made-ordered}
use Rattle.verilog.proofs.Walking.{is_tree, recognised}
use Rattle.verilog.proofs.Deep.{module-deepest}
use Rattle.verilog.proofs.Counting.{wires-counted}
use Rattle.verilog.proofs.Room.{operators-few}
use Rattle.from_verilog.proofs.Firsts.{never}
use Rattle.from_verilog.specs.declared.form.Scan.{Scan}
use Rattle.from_verilog.specs.Turns.{ScanIs}
use Rattle.from_verilog.specs.Puts.{put_gates}
use Rattle.write_netlist.specs.Admitted.{admits_one}
use Rattle.write_netlist.specs.Made.{NetlistAt}
use Rattle.write_netlist.proofs.Admission.{wires-admitted, limits-one}
use Rattle.std.specs.Prelude.{Some, None}
use Rattle.from_verilog.specs.declared.rules.Kept.{Kept as Answer}
use Rattle.from_verilog.specs.Kept.{KeptAt, RulesAre}
use Rattle.from_verilog.specs.Gates.{GatesPut}
use Rattle.from_verilog.proofs.Held.{Holding, held}

-- ---- questions 2 and 16

pub long-text : (L : Limits) (t : List ℕ) → L.text < length t → read_equations L t ≡ refused 2
unfolding read_equations
long-text L t h = rw (lt-leb (length t) L.text h)

no-tree : (o : Option Module) → is_tree o ≡ false → o ≡ none
no-tree none e = refl
no-tree (some m) e = absurd (never e)

some-tree : (o : Option Module) → is_tree o ≡ true → (m : Module) × (o ≡ some m)
some-tree none e = absurd (never (sym e))
some-tree (some m) e = (m, refl)

pub no-form : (L : Limits) (t : List ℕ) → length t ≤ L.text → ScanIs t None → read_equations L t ≡ refused 16
unfolding read_equations
no-form L t h S = let n = no-tree (parse t) (sym (recognised t) ∙ S) in rw (le-leb (length t) L.text h, n)

-- ---- a text that stands for a module

pub record Tree (L : Limits) (t : List ℕ) (r : Scan) : Type 0 where
  pub is : Module
  pub stands : Stands is t
  pub outcome : read_equations L t ≡ made_outcome L is
  pub depth : r.deepest ≡ assigns_depth is.assigns
  pub operators : r.operators ≡ operators_in (module_tokens is)
  pub few : r.operators ≤ length t

made_of : (L : Limits) (t : List ℕ) (m : Module) → length t ≤ L.text → parse t ≡ some m → read_equations L t
    ≡ made_outcome L m
unfolding read_equations
made_of L t m h e = rw (le-leb (length t) L.text h, e)

pub tree : (L : Limits) (t : List ℕ) {r : Scan} → length t ≤ L.text → ScanIs t (Some r) → Tree L t r
tree L t {r} h S =
    let p = some-tree (parse t) (sym (recognised t) ∙ S.0) in
    let m : Module = p.0 in
    let s = parse-sound t m p.1 in
    let C = S.1 in
    let a : C.all ≡ module_tokens m = some_same C.all (module_tokens m) (sym C.read ∙ s.written) in
    let f = operators-few t C.all C.read in
    record {
      is = m;
      stands = s;
      outcome = made_of L t m h p.1;
      depth = C.depth ∙ ap (λ (ts : List Token). deepest ts (flat on_module)) a ∙ module-deepest m;
      operators = C.operators ∙ ap operators_in a;
      few = omega (arith, f, C.operators);
    }

module _ {L : Limits} {t : List ℕ} {r : Scan} (R : Tree L t r) where
  -- ---- question 17

  module _ {size : ℕ} {heads words links st ws : List ℕ} where
    pub rules-broken : RulesAre t size heads words links st ws None → read_equations L t ≡ refused 17
    rules-broken A = R.outcome ∙ ap (λ (b : Bool). ask 17 b (ask 18 (shallow R.is)
        (ask 5 (within_limits L (header_of (netlist_made R.is))) (done (netlist_made R.is))))) (A.gives R.is R.stands)

    module _ {k : Answer} (A : RulesAre t size heads words links st ws (Some k)) where
      rules-true : rules_kept R.is ≡ true
      rules-true = (A.gives R.is R.stands).0

      pub at : KeptAt R.is t size heads words links st ws k
      at = (A.gives R.is R.stands).1

      -- ---- question 18

      following-17 : read_equations L t ≡ ask 18 (shallow R.is)
          (ask 5 (within_limits L (header_of (netlist_made R.is))) (done (netlist_made R.is)))
      following-17 = R.outcome ∙ ap (λ (b : Bool). ask 17 b (ask 18 (shallow R.is)
          (ask 5 (within_limits L (header_of (netlist_made R.is))) (done (netlist_made R.is))))) rules-true

      deep : max_depth < r.deepest → shallow R.is ≡ false
      unfolding shallow
      deep h = lt-leb (assigns_depth R.is.assigns) 32 (omega (arith, h, R.depth))

      flat-enough : r.deepest ≤ max_depth → shallow R.is ≡ true
      unfolding shallow
      flat-enough h = le-leb (assigns_depth R.is.assigns) 32 (omega (arith, h, R.depth))

      pub too-deep : 32 < r.deepest → read_equations L t ≡ refused 18
      too-deep h = following-17
          ∙ ap (λ (b : Bool). ask 18 b (ask 5 (within_limits L (header_of (netlist_made R.is)))
          (done (netlist_made R.is)))) (deep h)

      module _ (shallows : r.deepest ≤ 32) where
        following-18 : read_equations L t ≡ ask 5 (within_limits L (header_of (netlist_made R.is)))
            (done (netlist_made R.is))
        following-18 = following-17
            ∙ ap (λ (b : Bool). ask 18 b (ask 5 (within_limits L (header_of (netlist_made R.is)))
            (done (netlist_made R.is)))) (flat-enough shallows)

        -- ---- question 5

        wires-are : (netlist_made R.is).wires ≡ k.inputs + (r.operators + k.outputs)
        wires-are = let w = wires-counted R.is in let i = at.inputs in let o = at.outputs in let p = R.operators
            in omega (arith, w, i, o, p)

        inputs_are : (netlist_made R.is).inputs ≡ k.inputs ∷ []
        unfolding netlist_made
        inputs_are = ap (λ (x : ℕ). x ∷ []) (sym at.inputs)

        outputs-are : (netlist_made R.is).outputs ≡ k.outputs ∷ []
        unfolding netlist_made
        outputs-are = ap (λ (x : ℕ). x ∷ []) (sym at.outputs)

        abbrev wires : ℕ
        wires = k.inputs + (r.operators + k.outputs)

        five : within_limits L (header_of (netlist_made R.is)) ≡ admits_one L wires
        five = limits-one L (netlist_made R.is) wires-are inputs_are outputs-are (omega arith) (omega arith)

        pub no-room : admits_one L wires ≡ false → read_equations L t ≡ refused 5
        no-room n = following-18 ∙ ap (λ (b : Bool). ask 5 b (done (netlist_made R.is))) (five ∙ n)

        module _ (room : admits_one L wires ≡ true) where
          within : within_limits L (header_of (netlist_made R.is)) ≡ true
          within = five ∙ room

          pub few-wires : wires ≤ L.wires
          few-wires = wires-admitted L wires room

          next-is : k.inputs + r.operators ≡ (built R.is).next
          unfolding netlist_made
          next-is = let w = wires-counted R.is in let i = at.inputs in let p = R.operators in omega (arith, w, i, p)

          pub netlist-read : {before after : Tables} → L.wires ≤ length before.operands
              → L.wires ≤ length before.results → L.wires ≤ half → GatesPut t
              size heads words links st ws k (k.inputs + r.operators) before after
              → NetlistAt (read_equations L t) after (record {
                gates = r.operators + k.outputs;
                wires = k.inputs + (r.operators + k.outputs);
                inputs =
                    k.inputs;
                outputs = k.outputs;
              })
          netlist-read {before} {after} lo lr s G =
              let m = R.is in
              let N = netlist_made m in
              let rk = true-T (rules_kept m) rules-true in
              let K = kept m rk in
              let O = made-ordered K in
              let i = at.inputs in
              let W = N.wires in
              let gs = N.gates in
              let P : after ≡ put_gates k.inputs before gs = G.gives m R.stands rk at next-is in
              let Q : put_gates k.inputs before gs ≡ put_gates (length (input_ports m)) before gs
              = ap (λ (n : ℕ). put_gates n before gs) i in
              let H : Holding (put_gates (length (input_ports m)) before gs) W gs = held (length (input_ports m)) W gs
              before O (omega (arith, wires-are, few-wires, s))
              (omega (arith, wires-are, few-wires, lo)) (omega (arith, wires-are, few-wires, lr)) in
              let H' : Holding after W gs = subst (λ (X : Tables). Holding X W gs) (sym (P ∙ Q)) H in
              let l = ordered-length O in
              let c : length gs ≡ r.operators + k.outputs = omega (arith, l, i, wires-are) in
              record {
                is = N;
                outcome = following-18 ∙ ap (λ (b : Bool). ask 5 b (done N)) within;
                wires = wires-are;
                inputs = inputs_are;
                outputs = outputs-are;
                gates = sym H'.gates ∙ ap (gates_of after) c;
                wired = subst (λ (w : ℕ). Wired after w (r.operators + k.outputs)) wires-are
                    (subst (Wired after W) c H'.wired);
              }
