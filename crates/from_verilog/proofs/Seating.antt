-- Ports seated one after another.
use Prim.Native.Nat.{ℕ, ◌+◌, ◌≤◌}
use mathlib.Core.Path.{◌≡◌, refl, sym, ap, ◌∙◌}
use mathlib.Core.Bool.{Bool, true, false, cond}
use mathlib.Core.List.{List, [], ◌∷◌}
use mathlib.Core.Option.{some}
use native.Mathlib.Omega.{arith}
use lib.Dec.{eqb}
use lib.ListN.{length, drop}
use borrow.Author.Tests.{eqb-true, eqb-false}
use Rattle.netlist.specs.Lists.{ascii}
use Rattle.netlist.proofs.Tests.{on_bool}
use Rattle.netlist.proofs.Questions.{some_same}
use Rattle.verilog.specs.Tokens.{Token, name, mark, tokens}
use Rattle.from_verilog.specs.Next.{token_of, between, TokenAt}
use Rattle.from_verilog.proofs.Firsts.{never, token-code, first, none_left}
use Rattle.from_verilog.specs.Wires.{wire_of, given}
use Rattle.from_verilog.proofs.Joins.{head-same}
use Rattle.from_verilog.specs.States.{becomes}
use Rattle.from_verilog.specs.Ports.{PortSays, Ported, Seated, seat, seat_all, unseated, after_port, ports_left}
use Rattle.from_verilog.specs.Ports.{PortsGive}

abbrev pub seated : List ℕ → List ℕ → ℕ → ℕ → Seated
seated st ws i o = record { good = true; states = st; wires = ws; inputs = i; outputs = o }

pick : {b : Bool} (x y : Seated) → b ≡ true → cond b x y ≡ x
pick x y e = λ i. cond (e i) x y

pass : {b : Bool} (x y : Seated) → b ≡ false → cond b x y ≡ y
pass x y e = λ i. cond (e i) x y

-- a port that is none spoils all
pub spoilt : (t words : List ℕ) (n : ℕ) (ps : List (List ℕ)) (P : Seated) → P.good ≡ false
    → (seat_all t words n P ps).good ≡ false
spoilt t words n [] P e = e
spoilt t words n (w ∷ ps) P e = spoilt t words n ps (seat t words n P w)
    (on_bool (eqb (wire_of t words P.states n w) 1) (λ q. rw q e) (λ q. rw (q, e) refl))

pub record Ahead (t words : List ℕ) (n : ℕ) (st₀ ws₀ st ws : List ℕ) (i o place : ℕ) (ps : List (List ℕ))
    (rest : List Token) : Type 0 where
  pub more : List (List ℕ)
  pub tokens_are : tokens (drop place t) ≡ some (ports_left more rest)
  pub same : seat_all t words n (unseated st₀ ws₀) ps ≡ seat_all t words n (seated st ws i o) more

pub record Seating (t words : List ℕ) (n at : ℕ) (st₀ ws₀ st ws : List ℕ) (code from to i o : ℕ) : Type 0 where
  pub place : ℕ
  pub token : TokenAt t place code from to
  pub stated : length st ≡ length st₀
  pub wired : length ws ≡ length ws₀
  pub few : (i ≤ place) × (o ≤ place)
  pub gives : (ps : List (List ℕ)) (rest : List Token) → tokens (drop at t) ≡ some (ports_left ps rest)
      → Ahead t words n st₀ ws₀ st ws i o place ps rest

-- the first token, known
pub known : {t : List ℕ} {place c s b : ℕ} → TokenAt t place c s b → (x : Token) (us : List Token)
    → tokens (drop place t) ≡ some (x ∷ us) →
    (token_of c (between t s b) ≡ some x) × (tokens (drop b t) ≡ some us)
known {t} {place} {c} {s} {b} A x us e = on_bool (eqb c 0)
    (λ z. let n = none_left t place c s b A (x ∷ us) e z in let l = ap length n in absurd (omega (arith, l)))
    (λ z. let F = first t place c s b A (x ∷ us) e z in
    let h = head-same (x ∷ us) F.token x F.more us F.split refl in
    (F.is ∙ ap some h.0, F.left ∙ ap some h.1))

pub name-marked : (w : List ℕ) → token_of 15 w ≡ some (name w)
unfolding token_of
name-marked w = refl

pub same_name : {v w : List ℕ} → name v ≡ name w → v ≡ w
same_name e = ap bytes e
  where
    bytes : Token → List ℕ
    bytes (name w) = w
    bytes (mark k) = k

-- the port at a place, and what follows it
module _ {t : List ℕ} where
  pub port-here : {place code from to : ℕ} → TokenAt t place code from to → code ≡ 15
      → (ps : List (List ℕ)) (rest : List Token) → tokens (drop place t) ≡ some
      (ports_left ps rest)
      → (us : List (List ℕ)) × (ps ≡ between t from to ∷ us) × (tokens (drop to t) ≡ some (after_port us rest))
  port-here {code = code} {from} {to} A five [] rest e = let k = known A (mark (ascii ";")) rest e in
      let z = sym five ∙ token-code code (between t from to) (mark (ascii ";")) k.0 in absurd (omega (arith, z))
  port-here {code = code} {from} {to} A five (w ∷ ps) rest e =
      let k = known A (name w) (after_port ps rest) e in
      let v : between t from to ≡ w = same_name (some_same (name (between t from to)) (name w)
      (sym (ap (λ (c : ℕ). token_of c (between t from to)) five ∙ name-marked (between t from to)) ∙ k.0)) in
      (ps, ap (λ (x : List ℕ). x ∷ ps) (sym v), k.1)

  pub port-next : {to cc fc tc : ℕ} → TokenAt t to cc fc tc → (us : List (List ℕ)) (rest : List Token)
      → tokens (drop to t) ≡ some (after_port us rest) → tokens
      (drop tc t) ≡ some (ports_left us rest)
  port-next C [] rest e = (known C (mark (ascii ")")) (mark (ascii ";") ∷ rest) e).1
  port-next C (v ∷ us) rest e = (known C (mark (ascii ",")) (name v ∷ after_port us rest) e).1

  pub port-none : {place code from to : ℕ} → TokenAt t place code from to → (code ≡ 15 → ⊥)
      → (ps : List (List ℕ)) (rest : List Token) → tokens (drop place t) ≡
      some (ports_left ps rest) → ps ≡ []
  port-none A h [] rest e = refl
  port-none {code = code} {from} {to} A h (w ∷ ps) rest e = absurd
      (h (token-code code (between t from to) (name w) (known A (name w) (after_port ps rest) e).0))

module _ {t words : List ℕ} {n at : ℕ} {st₀ ws₀ : List ℕ} where
  module _ {st ws : List ℕ} {code from to i o : ℕ} (S : Seating t words n at st₀ ws₀ st ws code from to i o) where
    pub seat-end : (code ≡ 15 → ⊥) → PortsGive t words n at st₀ st ws₀ ws
        (record { good = true; inputs = i; outputs = o })
    seat-end h = record {
      gives = λ ps rest e. let A = S.gives ps rest e in
          let q : seat_all t words n (unseated st₀ ws₀) ps ≡ seated st ws i o = A.same
          ∙ ap (seat_all t words n (seated st ws i o))
          (port-none S.token h A.more rest A.tokens_are) in
          record {
            said = sym (ap (λ (P : Seated). P.good) q);
            states = λ g. sym (ap (λ (P : Seated). P.states) q);
            wires = λ g. sym (ap (λ (P : Seated). P.wires) q);
            inputs = λ g. sym (ap (λ (P : Seated). P.inputs) q);
            outputs = λ g. sym (ap (λ (P : Seated). P.outputs) q);
          };
    }

    module _ {st' ws' : List ℕ} {r : Ported} (P : PortSays t words n (between t from to) i o st st' ws ws' r)
        (five : code ≡ 15) where
      seated-is : r.good ≡ true → seat t words n (seated st ws i o) (between t from to)
          ≡ seated st' ws' r.inputs r.outputs
      seated-is g =
          let w = between t from to in
          let σ = wire_of t words st n w in
          let X : Seated = record {
            good = true;
            states = becomes t words st n w 1 5;
            wires
                = given t words ws n w i;
            inputs = i + 1;
            outputs = o;
          } in
          let Y : Seated = record {
            good = eqb σ 2;
            states = becomes t words st n w 2 4;
            wires = ws;
            inputs = i;
            outputs
                = o + 1;
          } in
          on_bool (eqb σ 1)
          (λ q. let K = P.is_input (eqb-true σ 1 q) in
          pick X Y q ∙ (λ j. seated (sym K.1 j) (sym K.2 j) (sym (ap (λ (x : Ported). x.inputs) K.0) j)
          (sym (ap (λ (x : Ported). x.outputs) K.0) j)))
          (λ q. let K = P.is_other (eqb-false σ 1 q) in
          let two : eqb σ 2 ≡ true = sym (ap (λ (x : Ported). x.good) K.0) ∙ g in
          pass X Y q ∙ (λ j. record {
            good = two j;
            states = sym K.1 j;
            wires = sym K.2 j;
            inputs = sym (ap (λ (x : Ported). x.inputs) K.0) j;
            outputs = sym (ap (λ (x : Ported). x.outputs) K.0) j;
          }))

      pub seat-bad : {i' o' : ℕ} {st'' ws'' : List ℕ} → r.good ≡ false → PortsGive t words n at st₀ st'' ws₀ ws''
          (record { good = false; inputs = i'; outputs = o' })
      seat-bad g = record {
        gives = λ ps rest e. let A = S.gives ps rest e in
            let T = port-here S.token five A.more rest A.tokens_are in
            let b : (seat t words n (seated st ws i o) (between t from to)).good ≡ false
            = on_bool (eqb (wire_of t words st n (between t from to)) 1)
            (λ q. absurd (never (sym (ap (λ (x : Ported). x.good)
            (P.is_input (eqb-true (wire_of t words st n (between t from to)) 1 q)).0) ∙ g)))
            (λ q. rw q (sym (ap (λ (x : Ported). x.good) (P.is_other
            (eqb-false (wire_of t words st n (between t from to)) 1 q)).0) ∙ g)) in
            let q = ap (λ (x : Seated). x.good) (A.same ∙ ap (seat_all t words n (seated st ws i o)) T.1)
            ∙ spoilt t words n T.0
            (seat t words n (seated st ws i o) (between t from to)) b in
            record {
              said = sym q;
              states = λ z. absurd (never (sym z));
              wires = λ z. absurd (never (sym z));
              inputs = λ z. absurd (never (sym z));
              outputs = λ z. absurd (never (sym z));
            };
      }

      pub seat-on : r.good ≡ true → length st' ≡ length st → length ws' ≡ length ws → {cc fc tc code' from' to' : ℕ}
          → TokenAt t to cc fc tc → TokenAt t tc
          code' from' to'
          → Seating t words n at st₀ ws₀ st' ws' code' from' to' r.inputs r.outputs
      seat-on g ls lw {cc} {fc} {tc} C A = record {
        place = tc;
        token = A;
        stated = ls ∙ S.stated;
        wired = lw ∙ S.wired;
        few = counts;
        gives = λ ps rest e. let H = S.gives ps rest e in
            let T = port-here S.token five H.more rest H.tokens_are in
            record {
              more = T.0;
              tokens_are = port-next C T.0 rest T.2;
              same = H.same ∙ ap (seat_all t words n (seated st ws i o)) T.1
                  ∙ ap (λ (x : Seated). seat_all t words n x T.0) (seated-is g);
            };
      }
        where
          counts : (r.inputs ≤ tc) × (r.outputs ≤ tc)
          counts =
              let z : eqb code 0 ≡ false = ap (λ (c : ℕ). eqb c 0) five in
              on_bool (eqb (wire_of t words st n (between t from to)) 1)
              (λ q. let K = (P.is_input (eqb-true (wire_of t words st n (between t from to)) 1 q)).0 in (
                omega (arith, ap (λ (x : Ported). x.inputs) K, S.few.0, S.token.start, S.token.on z, C.start, C.onward),
                omega
                    (arith, ap (λ (x : Ported). x.outputs) K, S.few.1, S.token.start, S.token.on z, C.start, C.onward),
              ))
              (λ q. let K = (P.is_other (eqb-false (wire_of t words st n (between t from to)) 1 q)).0 in (
                omega (arith, ap (λ (x : Ported). x.inputs) K, S.few.0, S.token.start, S.token.on z, C.start, C.onward),
                omega
                    (arith, ap (λ (x : Ported). x.outputs) K, S.few.1, S.token.start, S.token.on z, C.start, C.onward),
              ))
