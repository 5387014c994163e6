-- Question 17 of a module, from the states of its names.
use Prim.Native.Nat.{ℕ, zero, suc, ◌+◌, ◌-◌, ◌≤◌, ◌<◌}
use mathlib.Core.Path.{◌≡◌, refl, sym, ap, ap₂, ◌∙◌}
use mathlib.Core.Bool.{Bool, true, false, cond, not, ◌&&◌, ◌||◌}
use mathlib.Core.List.{List, [], ◌∷◌, ◌++◌}
use native.Mathlib.Omega.{arith}
use lib.Dec.{T, eqb, leb}
use lib.ListN.{length, get_or, replicate}
use borrow.Author.Tests.{eqb-true, eqb-false, le-leb, leb-true}
use Rattle.netlist.specs.Lists.{every, same_bytes}
use Rattle.netlist.proofs.Tests.{on_bool, both_true, is_true, true-T}
use Rattle.verilog.specs.Tokens.{elem}
use Rattle.verilog.specs.Syntax.{input, output, wire, Module}
use Rattle.verilog.specs.Rules.{distinct, all_names, inputs, outputs, wires, assigns_good}
use Rattle.verilog.specs.EachName.{times}
use Rattle.verilog.specs.Equations.{chosen, look, input_ports, output_ports}
use Rattle.verilog.specs.Made.{numbered}
use Rattle.verilog.proofs.Naming.{every-elem, all-every, Kept, some-input, some-output}
use Rattle.verilog.proofs.NameByName.{times_none, times-some, some-times}
use Rattle.from_verilog.proofs.Firsts.{never}
use Rattle.from_verilog.specs.Names.{names_of, found}
use Rattle.from_verilog.specs.Wires.{wire_of}
use Rattle.from_verilog.specs.States.{all_from}
use Rattle.from_verilog.specs.Stages.{Loaded}
use Rattle.from_verilog.specs.Ports.{Seated, seat_all, unseated}
use Rattle.from_verilog.proofs.Declaring.{found-elem}
use Rattle.from_verilog.proofs.Moves.{state-none, state-some}
use Rattle.from_verilog.specs.Settled.{Settled, settle_all, unsettled, is_open}
use Rattle.from_verilog.specs.Kept.{ports_done, assigns_done}
use Rattle.from_verilog.proofs.Entries.{all_named, every-same, valued_found, elem-found}
use Rattle.from_verilog.proofs.Declared.{items_left, elem-or, times-append, times-declared, loaded-names, loaded-once}
use Rattle.from_verilog.proofs.Declared.{loaded-kind, loaded-low}
use Rattle.from_verilog.proofs.Seats.{moved, is_port, is_input, is_output, Seen, ports_ok, ports-distinct, ports-every}
use Rattle.from_verilog.proofs.Seats.{ports-from, Sat, seat-good, good-seat}
use Rattle.from_verilog.proofs.Settles.{is_out, Known, Done, settle-good, good-settle}

-- ---- numbers up to 3

low-cases : (P : ℕ → Type 0) → P 0 → P 1 → P 2 → P 3 → (k : ℕ) → k ≤ 3 → P k
low-cases P a b c d zero h = a
low-cases P a b c d (suc zero) h = b
low-cases P a b c d (suc (suc zero)) h = c
low-cases P a b c d (suc (suc (suc zero))) h = d
low-cases P a b c d (suc (suc (suc (suc k)))) h = absurd (omega arith)

moved-read : (k : ℕ) → k ≤ 3 → leb 5 (moved k) ≡ eqb k 1
moved-read k h = low-cases (λ k. leb 5 (moved k) ≡ eqb k 1) refl refl refl refl k h

moved_open : (k : ℕ) → k ≤ 3 → is_open (moved k) ≡ ((eqb k 2 || eqb k 3) && not (eqb k 1))
moved_open k h = low-cases (λ k. is_open (moved k) ≡ ((eqb k 2 || eqb k 3) && not (eqb k 1))) refl refl refl refl k h

moved_out : (k : ℕ) → k ≤ 3 → is_out (moved k) ≡ eqb k 2
moved_out k h = low-cases (λ k. is_out (moved k) ≡ eqb k 2) refl refl refl refl k h

moved-high : (k : ℕ) → k ≤ 3 → eqb k 0 ≡ false → leb 3 (moved k) ≡ true
moved-high k h = low-cases (λ k. eqb k 0 ≡ false → leb 3 (moved k) ≡ true) (λ e. absurd (never e)) (λ e. refl)
    (λ e. refl) (λ e. refl) k h

port-low : (k : ℕ) → k ≤ 3 → is_port k ≡ true → leb 3 k ≡ false
port-low k h = low-cases (λ k. is_port k ≡ true → leb 3 k ≡ false) (λ e. refl) (λ e. refl) (λ e. refl)
    (λ e. absurd (never (sym e))) k h

no-port : (k : ℕ) → is_port k ≡ false → moved k ≡ k
no-port k e = on_bool (eqb k 1)
    (λ h. absurd (never (sym (ap (λ (b : Bool). b || eqb k 2) h) ∙ e)))
    (λ h. let g : eqb k 2 ≡ false = sym (ap (λ (b : Bool). b || eqb k 2) h) ∙ e
    in ap₂ (λ (a b : Bool). cond a 5 (cond b 4 k)) h g)

-- ---- lists

chosen-same : (p q : List ℕ → Bool) (ws : List (List ℕ)) → ((w : List ℕ) → p w ≡ q w) → chosen p ws ≡ chosen q ws
chosen-same p q ws h = ap (λ (r : List ℕ → Bool). chosen r ws) (λ i w. h w i)

chosen-some : (p : List ℕ → Bool) (ws : List (List ℕ)) → 1 ≤ length (chosen p ws) → (w : List ℕ) × (p w ≡ true)
chosen-some p [] h = absurd (omega arith)
chosen-some p (w ∷ ws) h = on_bool (p w) (λ e. (w, e)) (λ e. chosen-some p ws (rw e at h))

elem-length : (w : List ℕ) (ws : List (List ℕ)) → elem w ws ≡ true → 1 ≤ length ws
elem-length w [] e = absurd (never (sym e))
elem-length w (v ∷ ws) e = omega arith

look_none : (v : List ℕ) (k : ℕ) (ws : List (List ℕ)) → elem v ws ≡ false → look 0 (numbered k ws) v ≡ 0
look_none v k [] e = refl
look_none v k (w ∷ ws) e = on_bool (same_bytes v w)
    (λ q. absurd (never (sym (ap (λ (b : Bool). b || elem v ws) q) ∙ e)))
    (λ q. ap (λ (b : Bool). cond b k (look 0 (numbered (k + 1) ws) v)) q
    ∙ look_none v (k + 1) ws (sym (ap (λ (b : Bool). b || elem v ws) q) ∙ e))

pub get_d-zeros : (k i : ℕ) → ◌≡◌ {A = ℕ} (get_or (replicate k 0) i 0) 0
get_d-zeros zero i = refl
get_d-zeros (suc k) zero = refl
get_d-zeros (suc k) (suc i) = get_d-zeros k i

pub wire-zero : (t words ws : List ℕ) (n k : ℕ) → ws ≡ replicate k 0 → (v : List ℕ) → wire_of t words ws n v ≡ 0
wire-zero t words ws n k e v = on_bool (eqb (found t words v n) 0)
    (λ z. state-none t words ws v n (eqb-true (found t words v n) 0 z))
    (λ z. let f = eqb-false (found t words v n) 0 z in state-some t words ws v n (omega (arith, f))
    ∙ ap (λ (xs : List ℕ). get_or xs (found t words v n - 1) 0) e
    ∙ get_d-zeros k (found t words v n - 1))

-- ---- the declared names

module _ (m : Module) {t words st : List ℕ} {n place : ℕ} (L : Loaded t words st n place (items_left m))
    (room : n ≤ length st) where
  abbrev pub f : List ℕ → ℕ
  f = wire_of t words st n

  abbrev pub ports : List (List ℕ)
  ports = all_names m.ports

  low : (w : List ℕ) → f w ≤ 3
  low w = loaded-low m L room w

  is-input : (w : List ℕ) → eqb (f w) 1 ≡ elem w (inputs m)
  is-input w = loaded-kind m L room input w

  is-output : (w : List ℕ) → eqb (f w) 2 ≡ elem w (outputs m)
  is-output w = loaded-kind m L room output w

  is-wire : (w : List ℕ) → eqb (f w) 3 ≡ elem w (wires m)
  is-wire w = loaded-kind m L room wire w

  is-port : (w : List ℕ) → is_port (f w) ≡ elem w (inputs m ++ outputs m)
  is-port w = ap₂ ◌||◌ (is-input w) (is-output w) ∙ sym (elem-or w (inputs m) (outputs m))

  is-target : (w : List ℕ) → (eqb (f w) 2 || eqb (f w) 3) ≡ elem w (outputs m ++ wires m)
  is-target w = ap₂ ◌||◌ (is-output w) (is-wire w) ∙ sym (elem-or w (outputs m) (wires m))

  -- a declared name has an entry
  times-all : (w : List ℕ) → times w (names_of t words n) ≡ times w (inputs m) + times w (outputs m) + times w (wires m)
  times-all w = ap (times w) (loaded-names m L room) ∙ times-declared w m.declarations

  pub target_found : (w : List ℕ) → T (elem w (outputs m ++ wires m)) → 0 < found t words w n
  target_found w h =
      let a = times-some w (outputs m ++ wires m) h in
      let b = times-append w (outputs m) (wires m) in
      let c = times-all w in
      elem-found t words n w (is_true (elem w (names_of t words n))
      (some-times w (names_of t words n) (omega (arith, a, b, c))))

  port-named : (w : List ℕ) → T (elem w (inputs m ++ outputs m)) → T (elem w (names_of t words n))
  port-named w h =
      let a = times-some w (inputs m ++ outputs m) h in
      let b = times-append w (inputs m) (outputs m) in
      let c = times-all w in
      some-times w (names_of t words n) (omega (arith, a, b, c))

  target-named : (w : List ℕ) → T (elem w (outputs m ++ wires m)) → T (elem w (names_of t words n))
  target-named w h =
      let a = times-some w (outputs m ++ wires m) h in
      let b = times-append w (outputs m) (wires m) in
      let c = times-all w in
      some-times w (names_of t words n) (omega (arith, a, b, c))

  -- every name with an entry is an input, an output or a wire
  named_some : (w : List ℕ) → T (elem w (names_of t words n)) → eqb (f w) 0 ≡ false
  named_some w h = on_bool (eqb (f w) 0)
      (λ e. let z = eqb-true (f w) 0 e in
      let a : elem w (inputs m) ≡ false = sym (is-input w) ∙ ap (λ (k : ℕ). eqb k 1) z in
      let b : elem w (outputs m) ≡ false = sym (is-output w) ∙ ap (λ (k : ℕ). eqb k 2) z in
      let c : elem w (wires m) ≡ false = sym (is-wire w) ∙ ap (λ (k : ℕ). eqb k 3) z in
      let p = times_none w (inputs m) a in
      let q = times_none w (outputs m) b in
      let r = times_none w (wires m) c in
      let s = times-some w (names_of t words n) h in
      let y = times-all w in
      absurd (omega (arith, p, q, r, s, y)))
      (λ e. e)

  known-or-target : (w : List ℕ) → T (elem w (names_of t words n))
      → (elem w (inputs m) || elem w (outputs m ++ wires m)) ≡ true
  known-or-target w h = ap₂ ◌||◌ (sym (is-input w)) (sym (is-target w))
      ∙ low-cases (λ k. eqb k 0 ≡ false → (eqb k 1 || (eqb k 2 || eqb k 3)) ≡ true)
      (λ e. absurd (never e)) (λ e. refl) (λ e. refl) (λ e. refl) (f w) (low w) (named_some w h)

  -- ---- the ports

  module _ (ws : List ℕ) (wide : n ≤ length ws) where
    abbrev pub seats : Seated
    seats = seat_all t words n (unseated st ws) ports

    unseen : Seen t words n f [] st
    unseen v = refl

    pub record Ported : Type 0 where
      pub ok : T (ports_ok t words n f [] ports)
      pub all : (w : List ℕ) → T (elem w (inputs m ++ outputs m)) → T (elem w ports)
      pub some_input : 1 ≤ length (chosen (is_input t words n f) ports)
      pub some_output : 1 ≤ length (chosen (is_output t words n f) ports)

    sat : T (ports_ok t words n f [] ports) → Sat t words n f [] ports ws 0 0 seats n
    sat h = seat-good t words n f ports [] st ws 0 0 room wide unseen h

    pub inputs_are : chosen (is_input t words n f) ports ≡ input_ports m
    inputs_are = chosen-same (is_input t words n f) (λ w. elem w (inputs m)) ports is-input

    pub outputs-are : chosen (is_output t words n f) ports ≡ output_ports m
    outputs-are = chosen-same (is_output t words n f) (λ w. elem w (outputs m)) ports is-output

    pub kept-ported : Kept m → Ported
    kept-ported K = record {
      ok = ports-from t words n f ports [] K.ports_once
          (true-T (every (λ w. is_port (f w)) ports) (every-same (λ w. is_port (f w))
          (λ w. elem w (inputs m ++ outputs m)) ports (λ w h. is-port w)
          ∙ is_true (every (λ w. elem w (inputs m ++ outputs m)) ports) K.ports_declared)) (λ v h. refl);
      all = K.ports_all;
      some_input = let a = ap length inputs_are in let b = some-input K in omega (arith, a, b);
      some_output = let a = ap length outputs-are in let b = some-output K in omega (arith, a, b);
    }

    module _ (R : Ported) where
      S : Sat t words n f [] ports ws 0 0 seats n
      S = sat R.ok

      -- the states after the ports
      final : (v : List ℕ) → wire_of t words seats.states n v ≡ moved (f v)
      final v = S.states v ∙ on_bool (elem v ports)
          (λ e. ap (λ (b : Bool). cond (b || false) (moved (f v)) (f v)) e)
          (λ e. ap (λ (b : Bool). cond (b || false) (moved (f v)) (f v)) e ∙ sym (no-port (f v) (on_bool (is_port (f v))
          (λ h. absurd (never (sym
          (is_true (elem v ports) (R.all v (true-T (elem v (inputs m ++ outputs m)) (sym (is-port v) ∙ h)))) ∙ e)))
          (λ h. h))))

      all-seated : all_from seats.states n 3 ≡ true
      all-seated = all_named t words seats.states 3 n S.stated (loaded-once m L room)
          ∙ is_true (every (λ w. leb 3 (wire_of t words seats.states n w)) (names_of t words n))
          (all-every (λ w. leb 3 (wire_of t words seats.states n w)) (names_of t words n)
          (λ w h. true-T (leb 3 (wire_of t words seats.states n w))
          (ap (leb 3) (final w) ∙ moved-high (f w) (low w) (named_some w h))))

      pub ported-good : (ports_done n seats).good ≡ true
      ported-good =
          let i : leb 1 seats.inputs ≡ true = le-leb 1 seats.inputs (omega (arith, S.inputs, R.some_input)) in
          let o : leb 1 seats.outputs ≡ true = le-leb 1 seats.outputs (omega (arith, S.outputs, R.some_output)) in
          ap₂ ◌&&◌ (ap₂ ◌&&◌ (ap₂ ◌&&◌ S.good all-seated) i) o

      pub ported-inputs : seats.inputs ≡ length (input_ports m)
      ported-inputs = let a = ap length inputs_are in omega (arith, a, S.inputs)

      pub ported-outputs : seats.outputs ≡ length (output_ports m)
      ported-outputs = let a = ap length outputs-are in omega (arith, a, S.outputs)

      -- the wires of inputs, where none had one
      pub ported-wires : ((v : List ℕ) → wire_of t words ws n v ≡ 0) → (v : List ℕ) → wire_of t words seats.wires n v
          ≡ look 0 (numbered 0 (input_ports m)) v
      ported-wires z v =
          let us = chosen (is_input t words n f) ports in
          S.wires v ∙ on_bool (elem v us)
          (λ e. ap (λ (b : Bool). cond b (look 0 (numbered 0 us) v) (wire_of t words ws n v)) e)
          (λ e. ap (λ (b : Bool). cond b (look 0 (numbered 0 us) v) (wire_of t words ws n v)) e ∙ z v
          ∙ sym (look_none v 0 us e))
          ∙ ap (λ (xs : List (List ℕ)). look 0 (numbered 0 xs) v) inputs_are

      -- ---- the assignments

      abbrev pub targets : List (List ℕ)
      targets = outputs m ++ wires m

      known : Known t words n targets (outputs m) (inputs m) seats.states
      known = record {
        stated = S.stated;
        reads = λ v. ap (leb 5) (final v) ∙ moved-read (f v) (low v) ∙ is-input v;
        opens = λ v. ap is_open (final v) ∙ moved_open (f v) (low v) ∙ ap₂ (λ (a b : Bool). a && not b) (is-target v)
            (is-input v);
        is_output = λ v. ap is_out (final v) ∙ moved_out (f v) (low v) ∙ is-output v;
      }

      abbrev pub settles : Settled
      settles = settle_all t words n (unsettled seats.states) m.assigns

      every-settled : (D : Done t words n targets (outputs m) (inputs m) settles) → all_from settles.states n 5 ≡ true
      every-settled D = all_named t words settles.states 5 n D.states.stated (loaded-once m L room)
          ∙ is_true (every (λ w. leb 5 (wire_of t words settles.states n w)) (names_of t words n))
          (all-every (λ w. leb 5 (wire_of t words settles.states n w)) (names_of t words n)
          (λ w h. true-T (leb 5 (wire_of t words settles.states n w)) (D.states.reads w ∙ on_bool (elem w (inputs m))
          (λ e. is_true (elem w D.known) (D.more w (true-T (elem w (inputs m)) e)))
          (λ e. is_true (elem w D.known) (every-elem (λ v. elem v D.known) targets D.all w
          (true-T (elem w targets) (sym (ap (λ (b : Bool). b || elem w targets) e) ∙ known-or-target w h)))))))

      pub kept-settled : Kept m → (assigns_done n settles).good ≡ true
      kept-settled K = let D = settle-good t words n targets (outputs m) m.assigns (inputs m) seats.states known
          K.assigns in
          ap₂ ◌&&◌ D.good (every-settled D)

      module _ (g : (assigns_done n settles).good ≡ true) where
        parts : (settles.good ≡ true) × (all_from settles.states n 5 ≡ true)
        parts = both_true settles.good (all_from settles.states n 5) g

        assigns-good : n ≤ length settles.states → T (assigns_good (inputs m) targets m.assigns)
        assigns-good l = good-settle t words n targets (outputs m) m.assigns (inputs m) seats.states known parts.0
            (λ w h. is_true (leb 5 (wire_of t words settles.states n w))
            (every-elem (λ v. leb 5 (wire_of t words settles.states n v)) (names_of t words n)
            (true-T (every (λ v. leb 5 (wire_of t words settles.states n v)) (names_of t words n))
            (sym (all_named t words settles.states 5 n l (loaded-once m L room)) ∙ parts.1)) w (target-named w h)))

        pub settled-kept : n ≤ length settles.states → T (distinct (inputs m ++ outputs m ++ wires m)) → Kept m
        settled-kept l d = record {
          declared_once = d;
          ports_once = ports-distinct t words n f ports [] R.ok;
          ports_declared = true-T (every (λ w. elem w (inputs m ++ outputs m)) ports)
              (sym (every-same (λ w. is_port (f w)) (λ w. elem w (inputs m ++ outputs m)) ports (λ w h. is-port w))
              ∙ is_true (every (λ w. is_port (f w)) ports) (ports-every t words n f ports [] R.ok));
          ports_all = R.all;
          some_input = let c = chosen-some (is_input t words n f) ports R.some_input in elem-length c.0 (inputs m)
              (sym (is-input c.0) ∙ c.1);
          some_output = let c = chosen-some (is_output t words n f) ports R.some_output in elem-length c.0 (outputs m)
              (sym (is-output c.0) ∙ c.1);
          assigns = assigns-good l;
        }

        -- the outputs are the names in state 6
        pub settled-outputs : n ≤ length settles.states → (v : List ℕ) → eqb (wire_of t words settles.states n v) 6
            ≡ elem v (outputs m)
        settled-outputs l v =
            let D = settle-good t words n targets (outputs m) m.assigns (inputs m) seats.states known (assigns-good l)
            in
            let σ = wire_of t words settles.states n v in
            let four : eqb σ 4 ≡ false = on_bool (eqb σ 4)
            (λ e. let s = eqb-true σ 4 e in
            let p = valued_found t words settles.states n v (omega (arith, s)) in
            let q : elem v (names_of t words n) ≡ true = on_bool (elem v (names_of t words n)) (λ x. x)
            (λ x. let y = eqb-true (found t words v n) 0 (found-elem t words v n ∙ ap not x)
            in absurd (omega (arith, y, p))) in
            let h = is_true (leb 5 σ) (every-elem (λ v. leb 5 (wire_of t words settles.states n v)) (names_of t words n)
            (true-T (every (λ v. leb 5 (wire_of t words settles.states n v)) (names_of t words n))
            (sym (all_named t words settles.states 5 n l (loaded-once m L room)) ∙ parts.1)) v
            (true-T (elem v (names_of t words n)) q)) in
            absurd (never (sym h ∙ ap (leb 5) s)))
            (λ e. e) in
            sym (ap (λ (b : Bool). b || eqb σ 6) four) ∙ D.states.is_output v

    -- what the fold admits
    pub good-ported : (ports_done n seats).good ≡ true → Ported
    good-ported g =
        let a = both_true (seats.good && all_from seats.states n 3 && leb 1 seats.inputs) (leb 1 seats.outputs) g in
        let b = both_true (seats.good && all_from seats.states n 3) (leb 1 seats.inputs) a.0 in
        let c = both_true seats.good (all_from seats.states n 3) b.0 in
        let ok = good-seat t words n f ports [] st ws 0 0 room wide unseen c.0 in
        let S = sat ok in
        record {
          ok = ok;
          all = λ w h. on_bool (elem w ports) (true-T (elem w ports))
              (λ e. let s : wire_of t words seats.states n w ≡ f w = S.states w
              ∙ ap (λ (b : Bool). cond (b || false) (moved (f w)) (f w)) e in
              let k = is_true (leb 3 (wire_of t words seats.states n w))
              (every-elem (λ v. leb 3 (wire_of t words seats.states n v)) (names_of t words n)
              (true-T (every (λ v. leb 3 (wire_of t words seats.states n v)) (names_of t words n))
              (sym (all_named t words seats.states 3 n S.stated (loaded-once m L room)) ∙ c.1)) w (port-named w h)) in
              absurd (never (sym k ∙ ap (leb 3) s ∙ port-low (f w) (low w)
              (is-port w ∙ is_true (elem w (inputs m ++ outputs m)) h))));
          some_input = let i = leb-true 1 seats.inputs b.1 in omega (arith, S.inputs, i);
          some_output = let o = leb-true 1 seats.outputs a.1 in omega (arith, S.outputs, o);
        }
