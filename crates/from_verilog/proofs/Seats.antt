-- The port list: what the states of names, the wires of inputs and the counts are after it.
use Prim.Native.Nat.{ℕ, ◌+◌, ◌≤◌}
use mathlib.Core.Path.{◌≡◌, refl, sym, ap, ap₂, subst, ◌∙◌}
use mathlib.Core.Bool.{Bool, true, false, cond, not, ◌&&◌, ◌||◌}
use mathlib.Core.List.{List, [], ◌∷◌}
use native.Mathlib.Omega.{arith}
use lib.Dec.{T, eqb}
use lib.ListN.{length}
use borrow.Author.Tests.{eq-eqb, eqb-true}
use Rattle.netlist.specs.Lists.{every, same_bytes}
use Rattle.netlist.proofs.Tests.{on_bool, both, pair, or_right, is_true, is_false, true-T, false-T}
use Rattle.verilog.specs.Tokens.{elem}
use Rattle.verilog.specs.Rules.{distinct}
use Rattle.verilog.specs.Equations.{chosen, look}
use Rattle.verilog.specs.Made.{numbered}
use Rattle.verilog.proofs.Listing.{same-equal}
use Rattle.verilog.proofs.Naming.{elem-here, elem-chosen}
use Rattle.from_verilog.proofs.Firsts.{never}
use Rattle.from_verilog.specs.Wires.{wire_of, given}
use Rattle.from_verilog.specs.States.{becomes}
use Rattle.from_verilog.specs.Ports.{Seated, seat, seat_all}
use Rattle.from_verilog.proofs.Seating.{seated, spoilt}
use Rattle.from_verilog.proofs.Entries.{wire-moved, wire-given, valued_found, length-becomes, length-given}

-- the state of a port after it, by its kind
abbrev pub moved : ℕ → ℕ
moved k = cond (eqb k 1) 5 (cond (eqb k 2) 4 k)

abbrev pub is_port : ℕ → Bool
is_port k = eqb k 1 || eqb k 2

moved-not : (k : ℕ) → (eqb (moved k) 1 ≡ false) × (eqb (moved k) 2 ≡ false)
moved-not k = on_bool (eqb k 1)
    (λ e. let m : moved k ≡ 5 = ap (λ (b : Bool). cond b 5 (cond (eqb k 2) 4 k)) e
    in (ap (λ (x : ℕ). eqb x 1) m, ap (λ (x : ℕ). eqb x 2) m))
    (λ e. on_bool (eqb k 2)
    (λ h. let m : moved k ≡ 4 = ap₂ (λ (a b : Bool). cond a 5 (cond b 4 k)) e h
    in (ap (λ (x : ℕ). eqb x 1) m, ap (λ (x : ℕ). eqb x 2) m))
    (λ h. let m : moved k ≡ k = ap₂ (λ (a b : Bool). cond a 5 (cond b 4 k)) e h
    in (ap (λ (x : ℕ). eqb x 1) m ∙ e, ap (λ (x : ℕ). eqb x 2) m ∙ h)))

module _ (t words : List ℕ) (n : ℕ) (f : List ℕ → ℕ) where
  abbrev pub is_input : List ℕ → Bool
  is_input w = eqb (f w) 1

  abbrev pub is_output : List ℕ → Bool
  is_output w = eqb (f w) 2

  -- the states after some ports, where f has them before
  abbrev pub Seen : List (List ℕ) → List ℕ → Type 0
  Seen seen st = (v : List ℕ) → wire_of t words st n v ≡ cond (elem v seen) (moved (f v)) (f v)

  -- ports that are inputs or outputs, each once and not seen before
  abbrev pub ports_ok : List (List ℕ) → List (List ℕ) → Bool
  ports_ok seen [] = true
  ports_ok seen (w ∷ ps) = not (elem w seen) && is_port (f w) && ports_ok (w ∷ seen) ps

  record Parts (seen : List (List ℕ)) (w : List ℕ) (ps : List (List ℕ)) : Type 0 where
    new : elem w seen ≡ false
    port : is_port (f w) ≡ true
    rest : T (ports_ok (w ∷ seen) ps)

  apart : (seen : List (List ℕ)) (w : List ℕ) (ps : List (List ℕ)) → T (ports_ok seen (w ∷ ps)) → Parts seen w ps
  apart seen w ps h =
      let a = both (not (elem w seen) && is_port (f w)) (ports_ok (w ∷ seen) ps) h in
      let b = both (not (elem w seen)) (is_port (f w)) a.0 in
      record { new = is_false (elem w seen) b.0; port = is_true (is_port (f w)) b.1; rest = a.1 }

  pub ports-unseen : (ps seen : List (List ℕ)) (v : List ℕ) → T (ports_ok seen ps) → T (elem v seen) → elem v ps ≡ false
  ports-unseen [] seen v h s = refl
  ports-unseen (w ∷ ps) seen v h s =
      let A = apart seen w ps h in
      on_bool (same_bytes v w)
      (λ e. absurd (never (sym (is_true (elem v seen) s) ∙ ap (λ (x : List ℕ). elem x seen) (same-equal v w e)
      ∙ A.new)))
      (λ e. ap (λ (b : Bool). b || elem v ps) e ∙ ports-unseen ps (w ∷ seen) v A.rest
      (or_right (same_bytes v w) (elem v seen) s))

  pub ports-distinct : (ps seen : List (List ℕ)) → T (ports_ok seen ps) → T (distinct ps)
  ports-distinct [] seen h = tt
  ports-distinct (w ∷ ps) seen h =
      let A = apart seen w ps h in
      pair (not (elem w ps)) (distinct ps) (false-T (elem w ps)
      (ports-unseen ps (w ∷ seen) w A.rest (elem-here w seen))) (ports-distinct ps (w ∷ seen) A.rest)

  pub ports-every : (ps seen : List (List ℕ)) → T (ports_ok seen ps) → T (every (λ w. is_port (f w)) ps)
  ports-every [] seen h = tt
  ports-every (w ∷ ps) seen h = let A = apart seen w ps h in pair (is_port (f w)) (every (λ w. is_port (f w)) ps)
      (true-T (is_port (f w)) A.port)
      (ports-every ps (w ∷ seen) A.rest)

  pub ports-from : (ps seen : List (List ℕ)) → T (distinct ps) → T (every (λ w. is_port (f w)) ps)
      → ((v : List ℕ) → T (elem v ps) → elem v seen ≡ false) → T
      (ports_ok seen ps)
  ports-from [] seen d e g = tt
  ports-from (w ∷ ps) seen d e g =
      let a = both (not (elem w ps)) (distinct ps) d in
      let b = both (is_port (f w)) (every (λ w. is_port (f w)) ps) e in
      pair (not (elem w seen) && is_port (f w)) (ports_ok (w ∷ seen) ps)
      (pair (not (elem w seen)) (is_port (f w)) (false-T (elem w seen) (g w (elem-here w ps))) b.0)
      (ports-from ps (w ∷ seen) a.1 b.1
      (λ v h. on_bool (same_bytes v w)
      (λ q. absurd (never (sym (ap (λ (x : List ℕ). elem x ps) (sym (same-equal v w q)) ∙ is_true (elem v ps) h)
      ∙ is_false (elem w ps) a.0)))
      (λ q. ap (λ (x : Bool). x || elem v seen) q ∙ g v (or_right (same_bytes v w) (elem v ps) h))))

  -- ---- one port

  record Step (seen : List (List ℕ)) (w : List ℕ) (st ws : List ℕ) (i o : ℕ) : Type 0 where
    st' : List ℕ
    ws' : List ℕ
    i' : ℕ
    o' : ℕ
    is : seat t words n (seated st ws i o) w ≡ seated st' ws' i' o'
    stated : length st' ≡ length st
    wired : length ws' ≡ length ws
    states : Seen (w ∷ seen) st'
    wires : (v : List ℕ) → wire_of t words ws' n v ≡ cond (is_input w && same_bytes v w) i (wire_of t words ws n v)
    ins : i' ≡ cond (is_input w) (i + 1) i
    outs : o' ≡ cond (is_input w) o (o + 1)

  pick : {b : Bool} (x y : Seated) → b ≡ true → cond b x y ≡ x
  pick x y e = λ i. cond (e i) x y

  pass : {b : Bool} (x y : Seated) → b ≡ false → cond b x y ≡ y
  pass x y e = λ i. cond (e i) x y

  -- the states with one more, of which the new state is known
  seen_more : (seen : List (List ℕ)) (w : List ℕ) (st st' : List ℕ) (new : ℕ) → Seen seen st → moved (f w) ≡ new
      → ((v : List ℕ) → wire_of t words st' n v ≡ cond (same_bytes v w) new (wire_of t words st n v))
      → Seen (w ∷ seen) st'
  seen_more seen w st st' new H e g v = on_bool (same_bytes v w)
      (λ q. g v ∙ ap (λ (b : Bool). cond b new (wire_of t words st n v)) q ∙ sym e ∙ ap (λ (x : List ℕ). moved (f x))
      (sym (same-equal v w q))
      ∙ sym (ap (λ (b : Bool). cond (b || elem v seen) (moved (f v)) (f v)) q))
      (λ q. g v ∙ ap (λ (b : Bool). cond b new (wire_of t words st n v)) q ∙ H v
      ∙ sym (ap (λ (b : Bool). cond (b || elem v seen) (moved (f v)) (f v)) q))

  step : (seen : List (List ℕ)) (w : List ℕ) (st ws : List ℕ) (i o : ℕ) → n ≤ length st → n ≤ length ws → Seen seen st
      → elem w seen ≡ false → is_port (f w) ≡
      true → Step seen w st ws i o
  step seen w st ws i o ls lw H new port =
      let σ = wire_of t words st n w in
      let s : σ ≡ f w = H w ∙ ap (λ (b : Bool). cond b (moved (f w)) (f w)) new in
      let X = seated (becomes t words st n w 1 5) (given t words ws n w i) (i + 1) o in
      let Y : Seated = record {
        good = eqb σ 2;
        states = becomes t words st n w 2 4;
        wires = ws;
        inputs = i;
        outputs
            = o + 1;
      } in
      on_bool (eqb (f w) 1)
      (λ e. let one = eqb-true (f w) 1 e in
      let fw = valued_found t words st n w (omega (arith, s, one)) in
      record {
        st' = becomes t words st n w 1 5;
        ws' = given t words ws n w i;
        i' = i + 1;
        o' = o;
        is = pick X Y (ap (λ (x : ℕ). eqb x 1) s ∙ e);
        stated = length-becomes t words st n w 1 5;
        wired = length-given t words ws n w i;
        states = seen_more seen w st (becomes t words st n w 1 5) 5 H (ap moved one)
            (wire-moved t words st n w 1 5 ls (omega arith) (s ∙ one));
        wires = λ v. wire-given t words n w fw i ws lw v ∙ sym
            (ap (λ (b : Bool). cond (b && same_bytes v w) i (wire_of t words ws n v)) e);
        ins = sym (ap (λ (b : Bool). cond b (i + 1) i) e);
        outs = sym (ap (λ (b : Bool). cond b o (o + 1)) e);
      })
      (λ e. let two : f w ≡ 2 = eqb-true (f w) 2 (sym (ap (λ (b : Bool). b || eqb (f w) 2) e) ∙ port) in
      let good : eqb σ 2 ≡ true = eq-eqb σ 2 (s ∙ two) in
      record {
        st' = becomes t words st n w 2 4;
        ws' = ws;
        i' = i;
        o' = o + 1;
        is = pass X Y (ap (λ (x : ℕ). eqb x 1) s ∙ e)
            ∙ (λ j. record {
              good = good j;
              states = becomes t words st n w 2 4;
              wires = ws;
              inputs = i;
              outputs
                  = o + 1;
            });
        stated = length-becomes t words st n w 2 4;
        wired = refl;
        states = seen_more seen w st (becomes t words st n w 2 4) 4 H (ap moved two)
            (wire-moved t words st n w 2 4 ls (omega arith) (s ∙ two));
        wires = λ v. sym (ap (λ (b : Bool). cond (b && same_bytes v w) i (wire_of t words ws n v)) e);
        ins = sym (ap (λ (b : Bool). cond b (i + 1) i) e);
        outs = sym (ap (λ (b : Bool). cond b o (o + 1)) e);
      })

  -- ---- all ports

  pub record Sat (seen ps : List (List ℕ)) (ws : List ℕ) (i o : ℕ) (P : Seated) (least : ℕ) : Type 0 where
    pub good : P.good ≡ true
    pub stated : least ≤ length P.states
    pub wired : least ≤ length P.wires
    pub states : (v : List ℕ) → wire_of t words P.states n v ≡ cond (elem v ps || elem v seen) (moved (f v)) (f v)
    pub wires : (v : List ℕ) → wire_of t words P.wires n v ≡ cond (elem v (chosen is_input ps))
        (look 0 (numbered i (chosen is_input ps)) v) (wire_of t words ws n v)
    pub inputs : P.inputs ≡ i + length (chosen is_input ps)
    pub outputs : P.outputs ≡ o + length (chosen is_output ps)

  pub seat-good : (ps seen : List (List ℕ)) (st ws : List ℕ) (i o : ℕ) → n ≤ length st → n ≤ length ws → Seen seen st
      → T (ports_ok seen ps)
      → Sat seen ps ws i o (seat_all t words n (seated st ws i o) ps) n
  seat-good [] seen st ws i o ls lw H h = record {
    good = refl;
    stated = ls;
    wired = lw;
    states = H;
    wires = λ v. refl;
    inputs = omega arith;
    outputs = omega arith;
  }
  seat-good (w ∷ ps) seen st ws i o ls lw H h =
      let A = apart seen w ps h in
      let S = step seen w st ws i o ls lw H A.new A.port in
      let R = seat-good ps (w ∷ seen) S.st' S.ws' S.i' S.o' (omega (arith, ls, S.stated)) (omega (arith, lw, S.wired))
      S.states A.rest in
      let e : seat_all t words n (seat t words n (seated st ws i o) w) ps
      ≡ seat_all t words n (seated S.st' S.ws' S.i' S.o') ps = ap
      (λ (P : Seated). seat_all t words n P ps) S.is in
      let gone : elem w (chosen is_input ps) ≡ false = on_bool (elem w (chosen is_input ps))
      (λ q. absurd (never (sym
      (is_true (elem w ps) (elem-chosen is_input ps w (true-T (elem w (chosen is_input ps)) q)))
      ∙ ports-unseen ps (w ∷ seen) w A.rest
      (elem-here w seen))))
      (λ q. q) in
      let one_of : is_input w ≡ true → is_output w ≡ false = λ q. ap (λ (k : ℕ). eqb k 2) (eqb-true (f w) 1 q) in
      let other_of : is_input w ≡ false → is_output w ≡ true = λ q. sym (ap (λ (b : Bool). b || eqb (f w) 2) q)
      ∙ A.port in
      subst (λ (P : Seated). Sat seen (w ∷ ps) ws i o P n) (sym e) (record {
        good = R.good;
        stated = R.stated;
        wired = R.wired;
        states = λ v. R.states v ∙ ap (λ (b : Bool). cond b (moved (f v)) (f v))
            (turn (elem v ps) (same_bytes v w) (elem v seen));
        wires = λ v. R.wires v ∙ wired-more w ps ws S.ws' i S.i' v (S.wires v) S.ins gone;
        inputs = on_bool (is_input w)
            (λ q. let a : S.i' ≡ i + 1 = S.ins ∙ ap (λ (b : Bool). cond b (i + 1) i) q in
            let b = ap (λ (x : Bool). length (cond x (w ∷ chosen is_input ps) (chosen is_input ps))) q
            in omega (arith, a, b, R.inputs))
            (λ q. let a : S.i' ≡ i = S.ins ∙ ap (λ (b : Bool). cond b (i + 1) i) q in
            let b = ap (λ (x : Bool). length (cond x (w ∷ chosen is_input ps) (chosen is_input ps))) q
            in omega (arith, a, b, R.inputs));
        outputs = on_bool (is_input w)
            (λ q. let a : S.o' ≡ o = S.outs ∙ ap (λ (b : Bool). cond b o (o + 1)) q in
            let b = ap (λ (x : Bool). length (cond x (w ∷ chosen is_output ps) (chosen is_output ps))) (one_of q)
            in omega (arith, a, b, R.outputs))
            (λ q. let a : S.o' ≡ o + 1 = S.outs ∙ ap (λ (b : Bool). cond b o (o + 1)) q in
            let b = ap (λ (x : Bool). length (cond x (w ∷ chosen is_output ps) (chosen is_output ps))) (other_of q)
            in omega (arith, a, b, R.outputs));
      })
    where
      turn : (a b c : Bool) → (a || (b || c)) ≡ ((b || a) || c)
      turn true true c = refl
      turn true false c = refl
      turn false b c = go b
        where
          go : (b : Bool) → (b || c) ≡ ((b || false) || c)
          go true = refl
          go false = refl

      wired-more : (w : List ℕ) (ps : List (List ℕ)) (ws ws' : List ℕ) (i i' : ℕ) (v : List ℕ) → wire_of t words ws' n v
          ≡ cond (is_input w && same_bytes v w) i
          (wire_of t words ws n v)
          → i' ≡ cond (is_input w) (i + 1) i → elem w (chosen is_input ps) ≡ false
          → cond (elem v (chosen is_input ps)) (look 0 (numbered i' (chosen is_input ps)) v) (wire_of t words ws' n v)
          ≡ cond (elem v (chosen is_input (w ∷ ps))) (look 0 (numbered i (chosen is_input (w ∷ ps))) v)
          (wire_of t words ws n v)
      wired-more w ps ws ws' i i' v g k gone = on_bool (is_input w)
          (λ q. let i₁ : i' ≡ i + 1 = k ∙ ap (λ (b : Bool). cond b (i + 1) i) q in
          let us = chosen is_input ps in
          let g₁ : wire_of t words ws' n v ≡ cond (same_bytes v w) i (wire_of t words ws n v) = g ∙ ap
          (λ (b : Bool). cond (b && same_bytes v w) i (wire_of t words ws n v)) q in
          let R : cond (elem v (chosen is_input (w ∷ ps))) (look 0 (numbered i (chosen is_input (w ∷ ps))) v)
          (wire_of t words ws n v)
          ≡ cond (same_bytes v w || elem v us) (cond (same_bytes v w) i (look 0 (numbered (i + 1) us) v))
          (wire_of t words ws n v)
          = ap (λ (b : Bool). cond (elem v (cond b (w ∷ us) us)) (look 0 (numbered i (cond b (w ∷ us) us)) v)
          (wire_of t words ws n v)) q in
          on_bool (same_bytes v w)
          (λ s. let none : elem v us ≡ false = ap (λ (x : List ℕ). elem x us) (same-equal v w s) ∙ gone in
          ap (λ (b : Bool). cond b (look 0 (numbered i' us) v) (wire_of t words ws' n v)) none ∙ g₁
          ∙ ap (λ (b : Bool). cond b i (wire_of t words ws n v)) s
          ∙ sym (R ∙ ap (λ (b : Bool). cond (b || elem v us) (cond b i (look 0 (numbered (i + 1) us) v))
          (wire_of t words ws n v)) s))
          (λ s. ap₂ (λ (x : ℕ) (y : ℕ). cond (elem v us) (look 0 (numbered x us) v) y) i₁
          (g₁ ∙ ap (λ (b : Bool). cond b i (wire_of t words ws n v)) s)
          ∙ sym (R ∙ ap (λ (b : Bool). cond (b || elem v us) (cond b i (look 0 (numbered (i + 1) us) v))
          (wire_of t words ws n v)) s)))
          (λ q. let i₀ : i' ≡ i = k ∙ ap (λ (b : Bool). cond b (i + 1) i) q in
          let us = chosen is_input ps in
          ap₂ (λ (x : ℕ) (y : ℕ). cond (elem v us) (look 0 (numbered x us) v) y) i₀
          (g ∙ ap (λ (b : Bool). cond (b && same_bytes v w) i (wire_of t words ws n v)) q)
          ∙ sym (ap (λ (b : Bool). cond (elem v (cond b (w ∷ us) us)) (look 0 (numbered i (cond b (w ∷ us) us)) v)
          (wire_of t words ws n v)) q))

  -- what the fold admits are such ports
  pub good-seat : (ps seen : List (List ℕ)) (st ws : List ℕ) (i o : ℕ) → n ≤ length st → n ≤ length ws → Seen seen st
      → (seat_all t words n (seated st ws i o)
      ps).good ≡ true → T (ports_ok seen ps)
  good-seat [] seen st ws i o ls lw H h = tt
  good-seat (w ∷ ps) seen st ws i o ls lw H h =
      let σ = wire_of t words st n w in
      let p : is_port σ ≡ true = on_bool (seat t words n (seated st ws i o) w).good
      (λ g. admitted g)
      (λ g. absurd (never (sym h ∙ spoilt t words n ps (seat t words n (seated st ws i o) w) g))) in
      let new : elem w seen ≡ false = on_bool (elem w seen)
      (λ e. let s : σ ≡ moved (f w) = H w ∙ ap (λ (b : Bool). cond b (moved (f w)) (f w)) e in
      let q = moved-not (f w) in
      absurd (never (sym p ∙ ap₂ ◌||◌ (ap (λ (x : ℕ). eqb x 1) s ∙ q.0) (ap (λ (x : ℕ). eqb x 2) s ∙ q.1))))
      (λ e. e) in
      let port : is_port (f w) ≡ true = ap is_port (sym (H w ∙ ap (λ (b : Bool). cond b (moved (f w)) (f w)) new))
      ∙ p in
      let S = step seen w st ws i o ls lw H new port in
      let e = ap (λ (P : Seated). (seat_all t words n P ps).good) S.is in
      pair (not (elem w seen) && is_port (f w)) (ports_ok (w ∷ seen) ps)
      (pair (not (elem w seen)) (is_port (f w)) (false-T (elem w seen) new) (true-T (is_port (f w)) port))
      (good-seat ps (w ∷ seen) S.st' S.ws' S.i' S.o' (omega (arith, ls, S.stated)) (omega (arith, lw, S.wired)) S.states
      (sym e ∙ h))
    where
      admitted : (seat t words n (seated st ws i o) w).good ≡ true → is_port (wire_of t words st n w) ≡ true
      admitted g = on_bool (eqb (wire_of t words st n w) 1)
          (λ q. ap (λ (b : Bool). b || eqb (wire_of t words st n w) 2) q)
          (λ q. ap (λ (b : Bool). b || eqb (wire_of t words st n w) 2) q ∙ (rw q at g))
