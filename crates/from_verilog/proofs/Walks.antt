-- The loop over the tokens of a text.
use Prim.Native.Nat.{ℕ, ◌+◌, ◌*◌, ◌-◌, ◌≤◌, ◌<◌, max}
use mathlib.Core.Path.{◌≡◌, sym, ap, ◌∙◌}
use mathlib.Core.Bool.{Bool, true, false, cond}
use mathlib.Core.List.{List, [], ◌∷◌}
use mathlib.Core.Option.{Option, none, some}
use native.Mathlib.Omega.{arith}
use lib.Dec.{eqb, leb}
use lib.ListN.{length, drop}
use borrow.Author.Tests.{ne_eqb, leb-true, leb-false}
use Rattle.netlist.proofs.Tests.{on_bool}
use Rattle.verilog.specs.Tokens.{Token, cons_token, tokens}
use Rattle.verilog.specs.Parse.{if_some}
use Rattle.verilog.specs.Walk.{Phase, Shape, at, flat, turn, walk, is_end, well_ended, accepted, unfollowed, deepest}
use Rattle.verilog.specs.Walk.{operators_in, on_module}
use Rattle.verilog.proofs.Scanning.{after_turn, after_token, following-token}
use Rattle.from_verilog.specs.Next.{token_of, between, TokenAt}
use Rattle.from_verilog.proofs.Firsts.{some-token, no-token}
use Rattle.std.specs.Prelude.{Some, None}
use Rattle.from_verilog.specs.declared.form.Phase as P
use Rattle.from_verilog.specs.declared.form.Phase.TheVariants.{OnNothing}
use Rattle.from_verilog.specs.Turns.{phase_of, stepped, operator_code, ScanIs}
use Rattle.from_verilog.proofs.Machine.{depth_of, turned, turn-steady, end-other, stepped-token, operator-coded}

-- ---- one token

from : Shape → Option (List Token) → Bool
from s o = well_ended (if_some o (λ ts. walk ts s))

module _ {t : List ℕ} {place c start to : ℕ} (A : TokenAt t place c start to) where
  -- the tokens from a place on, where there is one more
  cons : eqb c 0 ≡ false → tokens (drop place t) ≡ cons_token (token_of c (between t start to)) (tokens (drop to t))
  cons z = A.read ∙ rw z

  accepted-next : (s : Shape) → eqb c 0 ≡ false → accepted (drop place t) s
      ≡ after_token (token_of c (between t start to)) s (drop to t)
  unfolding accepted from
  accepted-next s z = ap (from s) (cons z) ∙ following-token (token_of c (between t start to)) s (drop to t)

  accepted-end : (s : Shape) → eqb c 0 ≡ true → accepted (drop place t) s ≡ is_end s.phase
  unfolding accepted walk from
  accepted-end s z = let e : tokens (drop place t) ≡ some [] = A.read ∙ rw z in ap (from s) e

  tokens-end : eqb c 0 ≡ true → tokens (drop place t) ≡ some []
  tokens-end z = A.read ∙ rw z

-- ---- the most open parentheses

deepest-least : (ts : List Token) (s : Shape) → s.depth ≤ deepest ts s
unfolding deepest
deepest-least [] s = omega arith
deepest-least (x ∷ ts) s = go (turn s x)
  where
    go : (o : Option Shape) → s.depth ≤ unfollowed s.depth o (deepest ts)
    go none = omega arith
    go (some r) = omega arith

deepest-on : (x : Token) (ts : List Token) (s r : Shape) → turn s x ≡ some r → deepest (x ∷ ts) s
    ≡ max s.depth (deepest ts r)
unfolding deepest
deepest-on x ts s r e = rw e

pub one-operator : (c : ℕ) → operator_code c ≤ 1
one-operator c = on_bool (leb 12 c) (λ e. on_bool (leb c 14) (λ f. rw (e, f) (omega arith))
    (λ f. rw (e, f) (omega arith))) (λ e. rw e (omega arith))

-- tokens are left, where the code is not that of the end
abbrev pub left : List ℕ → ℕ → ℕ → ℕ
left t code to = 2 * (length t - to) + cond (eqb code 0) 0 1

-- ---- the loop

pub record Sofar (t : List ℕ) (p : Phase) (k most count : ℕ) (ts : List Token) : Type 0 where
  pub all : List Token
  pub read : tokens t ≡ some all
  pub depth : max most (deepest ts (at p k)) ≡ deepest all (flat on_module)
  pub operators : count + operators_in ts ≡ operators_in all

-- the next token has a code, and ends at a place; the tokens before it lead to a phase with so many parentheses open
pub record Walked (t : List ℕ) (code to : ℕ) (phase : P.Phase) (depth most count : ℕ) : Type 0 where
  pub place : ℕ
  pub start : ℕ
  pub token : TokenAt t place code start to
  pub steady : depth_of (phase_of phase) depth ≡ depth
  pub same : accepted t (flat on_module) ≡ accepted (drop place t) (at (phase_of phase) depth)
  pub under : depth ≤ most
  pub few : (most ≤ place) × (count ≤ place)
  pub counts : (ts : List Token) → tokens (drop place t) ≡ some ts → Sofar t (phase_of phase) depth most count ts

module _ (t : List ℕ) where
  module _ {code to : ℕ} {phase : P.Phase} {depth most count : ℕ} (W : Walked t code to phase depth most count) where
    p : Phase
    p = phase_of phase

    -- no token of the subset
    walk-bad : 15 < code → accepted t (flat on_module) ≡ false
    unfolding p
    walk-bad h =
        let z : eqb code 0 ≡ false = ne_eqb code 0 (λ e. omega (arith, e)) in
        let w = between t W.start to in
        W.same ∙ accepted-next W.token (at p depth) z ∙ ap (λ (o : Option Token). after_token o (at p depth)
        (drop to t)) (no-token code w h)

    module _ (z : eqb code 0 ≡ false) (l : code ≤ 15) where
      w : List ℕ
      w = between t W.start to

      x : Token
      x = (some-token code w z l).0

      turns-to : turn (at p depth) x ≡ stepped p code depth
      unfolding w x p
      turns-to = turned p depth code w x W.steady (some-token code w z l).1

      onward : accepted t (flat on_module) ≡ after_turn (stepped p code depth) (drop to t)
      unfolding w x p
      onward = W.same ∙ accepted-next W.token (at p depth) z
          ∙ ap (λ (o : Option Token). after_token o (at p depth) (drop to t)) (some-token code w z l).1
          ∙ ap (λ (o : Option Shape). after_turn o (drop to t)) turns-to

      walk-next : (phase' : P.Phase) (depth' : ℕ) → some (at (phase_of phase') depth') ≡ stepped p code depth
          → depth' ≤ depth + 1
          → {code' start' to' : ℕ} → TokenAt t to code' start' to'
          → Walked t code' to' phase' depth' (max most depth') (count + operator_code code)
      unfolding w x p
      walk-next phase' depth' e grows {code'} {start'} {to'} A =
          let r : Shape = at (phase_of phase') depth' in
          let tr : turn (at p depth) x ≡ some r = turns-to ∙ sym e in
          let ops : operator_code code ≤ 1 = one-operator code in
          record {
            place = to;
            start = start';
            token = A;
            steady = turn-steady p depth x r tr;
            same = onward ∙ ap (λ (o : Option Shape). after_turn o (drop to t)) (sym e);
            under = omega arith;
            few = (
              omega (arith, W.few.0, W.under, grows, W.token.start, W.token.on z),
              omega
                  (arith, W.few.1, ops, W.token.start, W.token.on z),
            );
            counts = λ ts b.
                let c : tokens (drop W.place t) ≡ some (x ∷ ts) = cons W.token z
                ∙ (λ i. cons_token ((some-token code w z l).1 i) (b i)) in
                let S = W.counts (x ∷ ts) c in
                let d = deepest-on x ts (at p depth) r tr in
                let m = deepest-least ts r in
                let o = operator-coded ts code w x (some-token code w z l).1 in
                record {
                  all = S.all;
                  read = S.read;
                  depth = omega (arith, S.depth, d, m, W.under);
                  operators = omega (arith, S.operators, o);
                };
          }

    -- a token that may not come
    pub walk-stuck : eqb code 0 ≡ false → none ≡ stepped (phase_of phase) code depth → accepted t (flat on_module)
        ≡ false
    unfolding p
    walk-stuck z e =
        on_bool (leb code 15)
        (λ h. onward z (leb-true code 15 h) ∙ ap (λ (o : Option Shape). after_turn o (drop to t)) (sym e))
        (λ h. walk-bad (leb-false code 15 h))

    pub walk-on : eqb code 0 ≡ false → code ≤ 16 → (phase' : P.Phase) (depth' : ℕ)
        → some (at (phase_of phase') depth') ≡ stepped (phase_of phase) code depth → depth' ≤ depth + 1
        → {code' start' to' : ℕ} → TokenAt t to code' start' to'
        → Walked t code' to' phase' depth' (max most depth') (count + operator_code code)
    unfolding p
    walk-on z h phase' depth' e grows A =
        walk-next z (stepped-token (phase_of phase) code depth (at (phase_of phase') depth') h e) phase' depth' e grows
        A

    -- after the last token
    pub walk_end : eqb code 0 ≡ true → phase ≡ OnNothing → ScanIs t
        (Some (record { deepest = most; operators = count }))
    unfolding deepest
    walk_end z e =
        let S = W.counts [] (tokens-end W.token z) in (
          W.same ∙ accepted-end W.token (at (phase_of phase) depth) z ∙ ap (λ (q : P.Phase). is_end (phase_of q)) e,
          record {
            all = S.all;
            read = S.read;
            depth = omega (arith, S.depth, W.under);
            operators
                = omega (arith, S.operators);
          },
        )

    pub walk_unended : eqb code 0 ≡ true → (phase ≡ OnNothing → ⊥) → ScanIs t None
    walk_unended z h = W.same ∙ accepted-end W.token (at (phase_of phase) depth) z ∙ end-other phase h
