-- Operands with signs between them, and factors.
use Prim.Native.Nat.{ℕ, suc, ◌+◌, ◌*◌, ◌-◌, ◌≤◌, ◌<◌}
use mathlib.Core.Path.{◌≡◌, refl, sym, ap, ◌∙◌, subst}
use mathlib.Core.Bool.{Bool, true, false, cond}
use mathlib.Core.List.{List, [], ◌∷◌, ◌++◌}
use mathlib.Core.Option.{some}
use native.Mathlib.Omega.{arith}
use lib.Dec.{eqb}
use lib.ListN.{length, drop}
use borrow.Author.Tests.{ne_eqb, eqb-true, eqb-false}
use Rattle.netlist.specs.declared.Gate.{Gate}
use Rattle.netlist.specs.declared.Gate.TheVariants.{Xor, And, Inv}
use Rattle.netlist.specs.Lists.{ascii}
use Rattle.netlist.specs.Table.{Tables, tables}
use Rattle.netlist.proofs.Tests.{on_bool}
use Rattle.netlist.proofs.Questions.{some_same}
use Rattle.verilog.specs.Tokens.{Token, name, mark, tokens}
use Rattle.verilog.specs.Syntax.{tilde, expr_tokens, term_tokens, factor_tokens}
use Rattle.verilog.specs.Made.{Made, plain, operate, invert, expr_made, term_made, factor_made}
use Rattle.verilog.specs.Walk.{at, walk, on_operand, on_negated, after_operand}
use Rattle.verilog.specs.Reading.{Accepts, Read}
use Rattle.verilog.proofs.Walking.{operand_phase}
use Rattle.verilog.proofs.Descent.{name-read, group-read, term-first, expr-first, term-more, expr-more, operand_cases}
use Rattle.verilog.proofs.Descent.{negated-cases, following-cases}
use Rattle.from_verilog.specs.declared.tokens.Token.{Token as Lexed}
use denote.Enum.Bare.{sameb}
use Rattle.from_verilog.specs.contracts.tokens.Kind.{the_type}
use Rattle.from_verilog.specs.declared.tokens.Kind.TheVariants.{Not}
use Rattle.from_verilog.proofs.KindTests.{same_number}
use Rattle.from_verilog.specs.Kind.{number_of}
use Rattle.from_verilog.specs.Next.{code_of, token_of, between, TokenAt}
use Rattle.from_verilog.proofs.Firsts.{never, token-code, First, first, none_left}
use Rattle.from_verilog.specs.Puts.{put_gate, put_gates}
use Rattle.from_verilog.specs.Operands.{Ready, Gives, OperandIs, any, no_and, no_operator, FactorIs, TermIs, ExprIs}
use Rattle.from_verilog.specs.Operands.{PastIs, Finished}
use Rattle.from_verilog.specs.declared.expression.Value.{Value}

-- ---- gates in the tables

pub puts-append : (n : ℕ) (t : Tables) (a b : List Gate) → put_gates n t (a ++ b) ≡ put_gates n (put_gates n t a) b
unfolding put_gates
puts-append n t [] b = refl
puts-append n t (g ∷ a) b = puts-append n (put_gate n t g) a b

put_last : (n : ℕ) (t : Tables) (a : List Gate) (g : Gate) → put_gates n t (a ++ g ∷ []) ≡ put_gate n (put_gates n t a)
    g
unfolding put_gates
put_last n t a g = puts-append n t a (g ∷ [])

-- an operator's gate after those of its operands
more-stored : (n : ℕ) (gate : ℕ → ℕ → ℕ → Gate) (L R : Made) (x y z : ℕ) (before now now' after : Tables) → now
    ≡ put_gates n before L.gates → now' ≡ put_gates
    n now R.gates
    → x ≡ L.wire → y ≡ R.wire → z ≡ R.next → after ≡ put_gate n now' (gate x y z) → after
    ≡ put_gates n before (operate gate L R).gates
more-stored n gate L R x y z before now now' after p q a b c e =
    let g = gate L.wire R.wire R.next in
    e ∙ (λ i. put_gate n (q i) (gate (a i) (b i) (c i)))
    ∙ ap (λ (k : Tables). put_gate n (put_gates n k R.gates) g) p
    ∙ ap (λ (k : Tables). put_gate n k g) (sym (puts-append n before L.gates R.gates))
    ∙ sym (put_last n before (L.gates ++ R.gates) g)

-- ---- what a caller needs of an operand that was read

module _ {A : Type 0} {tokens_of : A → List Token} {made_of : A → (List ℕ → ℕ) → ℕ → Made} {stops : ℕ → Bool}
    {wire : List ℕ → ℕ} {t : List ℕ} {n from c : ℕ}
    {before after : Tables} {v : Value} (S : OperandIs tokens_of made_of stops wire t n from c before after v) where
  -- another test of the token after it
  pub retest : (stops' : ℕ → Bool) → stops' (number_of v.token.kind) ≡ true → OperandIs tokens_of made_of stops' wire t
      n from c before after v
  retest stops' h = record {
    to = S.to;
    start = S.start;
    token = S.token;
    stop = h;
    on = S.on;
    more = S.more;
    few
        = S.few;
    gives = S.gives;
  }

  module _ (z : eqb (number_of v.token.kind) 0 ≡ false) where
    pub following-on : from < v.token.to
    following-on = omega (arith, S.on, S.token.start, S.token.on z)

    pub following-ready : {wires : List ℕ} {count : ℕ} → Ready t wires count n from c
        → Ready t wires count n v.token.to v.next
    following-ready R = record {
      wired = R.wired;
      within = S.token.within;
      first = omega (arith, R.first, S.more);
      room = omega (arith, R.room, S.few, S.on, S.token.start, S.token.on z, S.token.within);
    }

-- ---- operands with a sign between them

module _ {A B : Type 0} (tok_a : A → List Token) (made_a : A → (List ℕ → ℕ) → ℕ → Made) (tok_b : B → List Token)
    (made_b : B → (List ℕ → ℕ) → ℕ → Made)
    (sign : List ℕ) (code : ℕ) (gate : ℕ → ℕ → ℕ → Gate) (wire : List ℕ → ℕ) (t : List ℕ) (n from c : ℕ) where
  abbrev pub FirstLaw : Type 0
  FirstLaw = (k : ℕ) (ts rest : List Token) (M : Made) → Read tok_b made_b wire k c ts rest M
      → Read tok_a made_a wire k c ts rest M

  abbrev pub MoreLaw : Type 0
  MoreLaw = (k : ℕ) (ts us rest : List Token) (L R : Made) → Read tok_a made_a wire k c ts (mark sign ∷ us) L
      → Read tok_b made_b wire k L.next us rest R → Read
      tok_a made_a wire k c ts rest (operate gate L R)

  pub sum-start : FirstLaw → (stops : ℕ → Bool) {before after : Tables} {v : Value} → OperandIs tok_b made_b stops wire
      t n from c before after v
      → OperandIs tok_a made_a stops wire t n from c before after v
  sum-start law stops S = record {
    to = S.to;
    start = S.start;
    token = S.token;
    stop = S.stop;
    on = S.on;
    more = S.more;
    few = S.few;
    gives = λ k ts e a. let G = S.gives k ts e a in record {
      rest = G.rest;
      left = G.left;
      M = G.M;
      read = law k ts G.rest G.M G.read;
      value = G.value;
      free = G.free;
      stored = G.stored;
    };
  }

  pub sum_more : MoreLaw → ((w : List ℕ) → token_of code w ≡ some (mark sign)) → eqb code 0 ≡ false
      → ((k : ℕ) (us : List Token) → Accepts (mark sign ∷ us) (at after_operand k) → Accepts us (at on_operand k))
      → (stops stops' : ℕ → Bool) {before now now' after : Tables} {v u : Value}
      → OperandIs tok_a made_a stops wire t n from c before now v → (number_of v.token.kind) ≡ code
      → OperandIs tok_b made_b stops' wire t n v.token.to v.next now now' u
      → after ≡ put_gate n now' (gate v.wire u.wire u.next)
      → OperandIs tok_a made_a stops' wire t n from c before after
      (record { wire = u.next; next = u.next + 1; token = u.token })
  sum_more law marked positive turned stops stops' {before} {now} {now'} {after} {v} {u} S e R p =
      let z : eqb (number_of v.token.kind) 0 ≡ false = ap (λ (x : ℕ). eqb x 0) e ∙ positive in
      record {
        to = R.to;
        start = R.start;
        token = R.token;
        stop = R.stop;
        on = omega (arith, following-on S z, R.on);
        more = omega (arith, S.more, R.more);
        few = omega (arith, S.few, R.few, S.token.start, S.token.on z);
        gives = λ k ts q a.
            let G = S.gives k ts q a in
            let F = first t S.to (number_of v.token.kind) S.start v.token.to S.token G.rest G.left z in
            let w = between t S.start v.token.to in
            let x : mark sign ≡ F.token = some_same (mark sign) F.token (sym (ap (λ (y : ℕ). token_of y w) e ∙ marked w)
            ∙ F.is) in
            let s : G.rest ≡ mark sign ∷ F.more = F.split ∙ ap (λ (y : Token). y ∷ F.more) (sym x) in
            let L = subst (λ (y : List Token). Read tok_a made_a wire k c ts y G.M) s G.read in
            let H = R.gives k F.more F.left (turned k F.more L.onward) in
            let r = subst (λ (y : ℕ). Read tok_b made_b wire k y F.more H.rest H.M) G.free H.read in
            record {
              rest = H.rest;
              left = H.left;
              M = operate gate G.M H.M;
              read = law k ts F.more H.rest G.M H.M L r;
              value = H.free;
              free = ap (λ (y : ℕ). y + 1) H.free;
              stored = more-stored n gate G.M H.M v.wire u.wire u.next before now now' after G.stored H.stored G.value
                  H.value H.free p;
            };
      }

-- ---- factors

-- the tokens of a factor's operand, after a ~ or not
pub record Ahead (t : List ℕ) (place : ℕ) (negated : Bool) (k : ℕ) (ts : List Token) : Type 0 where
  pub more : List Token
  pub split : ts ≡ tilde negated ++ more
  pub left : tokens (drop place t) ≡ some more
  pub onward : Accepts more (at (operand_phase negated) k)

-- the operand of a factor begins at a place, after a ~ or not
pub record OperandAt (t : List ℕ) (from : ℕ) (negated : Bool) (y : Lexed) : Type 0 where
  pub place : ℕ
  pub token : TokenAt t place (number_of y.kind) y.from y.to
  pub on : from + cond negated 1 0 ≤ place
  pub once : negated ≡ false → eqb (number_of y.kind) 12 ≡ false
  pub ahead : (k : ℕ) (ts : List Token) → tokens (drop from t) ≡ some ts → Accepts ts (at on_operand k)
      → Ahead t place negated k ts

pub mark-first : (t : List ℕ) (code : ℕ) (sign : List ℕ) → ((w : List ℕ) → token_of code w ≡ some (mark sign))
    → {w : List ℕ} {following c : ℕ} {ts : List Token} →
    c ≡ code → (F : First t c w following ts) → ts ≡ mark sign ∷ F.more
mark-first t code sign marked {w} e F =
    let x : mark sign ≡ F.token = some_same (mark sign) F.token (sym (ap (λ (y : ℕ). token_of y w) e ∙ marked w) ∙ F.is)
    in
    F.split ∙ ap (λ (y : Token). y ∷ F.more) (sym x)

tilde-marked : (w : List ℕ) → token_of 12 w ≡ some (mark (ascii "~"))
unfolding token_of
tilde-marked w = refl

open-marked : (w : List ℕ) → token_of 7 w ≡ some (mark (ascii "("))
unfolding token_of
open-marked w = refl

tilde-turn : (k : ℕ) (us : List Token) → Accepts (mark (ascii "~") ∷ us) (at on_operand k)
    → Accepts us (at on_negated k)
unfolding walk
tilde-turn k us a = a

open_turn : (negated : Bool) (k : ℕ) (us : List Token) → Accepts (mark (ascii "(") ∷ us) (at (operand_phase negated) k)
    → Accepts us (at on_operand (suc k))
unfolding walk
open_turn true k us a = a
open_turn false k us a = a

name-turn : (negated : Bool) (k : ℕ) (w : List ℕ) (us : List Token)
    → Accepts (name w ∷ us) (at (operand_phase negated) k) → Accepts us (at after_operand k)
unfolding walk
name-turn true k w us a = a
name-turn false k w us a = a

operand_at : (t : List ℕ) (from : ℕ) (x y : Lexed) → TokenAt t from (number_of x.kind) x.from x.to → PastIs t x y
    → OperandAt t from (eqb (number_of x.kind) 12) y
operand_at t from x y X P = on_bool (eqb (number_of x.kind) 12) yes no
  where
    yes : eqb (number_of x.kind) 12 ≡ true → OperandAt t from (eqb (number_of x.kind) 12) y
    yes e =
        let c = eqb-true (number_of x.kind) 12 e in
        let z : eqb (number_of x.kind) 0 ≡ false = ap (λ (k : ℕ). eqb k 0) c in
        rw e (record {
          place = x.to;
          token = P.negated e;
          on = omega (arith, X.start, X.on z);
          once = λ h. absurd (never h);
          ahead = λ k ts q a.
              let F = first t from (number_of x.kind) x.from x.to X ts q z in
              let s = mark-first t 12 (ascii "~") tilde-marked c F in
              record {
                more = F.more;
                split = s;
                left = F.left;
                onward
                    = tilde-turn k F.more (subst (λ (u : List Token). Accepts u (at on_operand k)) s a);
              };
        })

    no : eqb (number_of x.kind) 12 ≡ false → OperandAt t from (eqb (number_of x.kind) 12) y
    no e =
        let s = P.plain e in
        rw e (record {
          place = from;
          token = subst (λ (u : Lexed). TokenAt t from (number_of u.kind) u.from u.to) (sym s) X;
          on = omega arith;
          once = λ h. ap (λ (u : Lexed). eqb (number_of u.kind) 12) s ∙ e;
          ahead = λ k ts q a. record { more = ts; split = refl; left = q; onward = a };
        })

pub operand_after : (t : List ℕ) (from : ℕ) (x y : Lexed) {negated : Bool} → negated ≡ sameb the_type x.kind Not
    → TokenAt t from (number_of x.kind) x.from x.to → PastIs t x y → OperandAt t from negated y
operand_after t from x y e X P = rw (e ∙ same_number x.kind Not) (operand_at t from x y X P)

-- ---- the value of a factor

module _ (n : ℕ) (negated : Bool) (M : Made) where
  -- inverted or not
  inverts : {t : List ℕ} {to : ℕ} (x c : ℕ) (before now : Tables) {after : Tables} {v : Value} → x ≡ M.wire → c ≡ M.next
      → now ≡ put_gates n before M.gates
      → Finished t n negated x c to now after v
      → (v.wire ≡ (invert negated M).wire) × (v.next ≡ (invert negated M).next)
      × (after ≡ put_gates n before (invert negated M).gates)
  inverts x c before now {after} {v} p q r F = go negated F.value F.free F.stored
    where
      go : (b : Bool) → v.wire ≡ cond b c x → v.next ≡ cond b (c + 1) c → after ≡ cond b (put_gate n now (Inv x c)) now
          → (v.wire ≡ (invert b M).wire) × (v.next ≡ (invert b M).next)
          × (after ≡ put_gates n before (invert b M).gates)
      go true f g h = (
        f ∙ q,
        g ∙ ap (λ (y : ℕ). y + 1) q,
        h ∙ (λ i. put_gate n (r i) (Inv (p i) (q i)))
            ∙ sym (put_last n before M.gates (Inv M.wire M.next)),
      )
      go false f g h = (f ∙ p, g ∙ q, h ∙ r)

next-sum : (b : Bool) (c : ℕ) → cond b (c + 1) c ≡ c + cond b 1 0
next-sum true c = refl
next-sum false c = omega arith

-- two ways to split a list of tokens
pub head-same : (ts : List Token) (x y : Token) (us vs : List Token) → ts ≡ x ∷ us → ts ≡ y ∷ vs → (x ≡ y) × (us ≡ vs)
head-same ts x y us vs p q = let e = sym p ∙ q in (ap (head_or x) e, ap tail e)
  where
    head_or : Token → List Token → Token
    head_or d [] = d
    head_or d (z ∷ zs) = z

    tail : List Token → List Token
    tail [] = []
    tail (z ∷ zs) = zs

-- an operand must follow, or something after one
some-operand : (negated : Bool) (k : ℕ) → Accepts [] (at (operand_phase negated) k) → ⊥
unfolding walk
some-operand true k a = a
some-operand false k a = a

pub some-following : (k : ℕ) → Accepts [] (at after_operand k) → ⊥
unfolding walk
some-following k a = a

-- the first token of an operand: a name or a parenthesis
start-code : (negated : Bool) (k : ℕ) (x : Token) (us : List Token) → Accepts (x ∷ us) (at (operand_phase negated) k)
    → (negated ≡ false → code_of x ≡ 12 → ⊥)
    → (code_of x ≡ 15 → ⊥) → (code_of x ≡ 7 → ⊥) → ⊥
start-code true k x us a h f g =
    negated-cases k (x ∷ us) a
    (λ w vs e b. f (ap code_of (head-same (x ∷ us) x (name w) us vs refl e).0))
    (λ vs e b. g (ap code_of (head-same (x ∷ us) x (mark (ascii "(")) us vs refl e).0))
start-code false k x us a h f g =
    operand_cases k (x ∷ us) a
    (λ w vs e b. f (ap code_of (head-same (x ∷ us) x (name w) us vs refl e).0))
    (λ vs e b. h refl (ap code_of (head-same (x ∷ us) x (mark (ascii "~")) us vs refl e).0))
    (λ vs e b. g (ap code_of (head-same (x ∷ us) x (mark (ascii "(")) us vs refl e).0))

-- after an operand in parentheses, where no operator follows: its end
close-first : (k : ℕ) (x : Token) (us : List Token) → Accepts (x ∷ us) (at after_operand (suc k))
    → no_operator (code_of x) ≡ true →
    (x ∷ us ≡ mark (ascii ")") ∷ us) × Accepts us (at after_operand k)
close-first k x us a h =
    following-cases (suc k) (x ∷ us) a
    (λ vs e b. absurd (never (sym h ∙ ap (λ (y : Token). no_operator (code_of y))
    (head-same (x ∷ us) x (mark (ascii "&")) us vs refl e).0)))
    (λ vs e b. absurd (never (sym h ∙ ap (λ (y : Token). no_operator (code_of y))
    (head-same (x ∷ us) x (mark (ascii "^")) us vs refl e).0)))
    (λ j vs q e b. let s = head-same (x ∷ us) x (mark (ascii ")")) us vs refl e in
    let z : j ≡ k = omega arith in (
      ap (λ (y : Token). y ∷ us) s.0,
      subst (λ (y : ℕ). Accepts us (at after_operand y)) z
          (subst (λ (y : List Token). Accepts y (at after_operand j)) (sym s.1) b),
    ))
    (λ vs q e b. absurd (omega arith))

module _ {wire : List ℕ → ℕ} {t : List ℕ} {n from : ℕ} {negated : Bool} {y : Lexed} (O : OperandAt t from negated y)
  where
    pub factor-name : (c x : ℕ) {before after : Tables} {v : Value} → (number_of y.kind) ≡ 15 → x
        ≡ wire (between t y.from y.to) → Finished t n negated x c y.to
        before after v
        → FactorIs wire t n from c before after v
    unfolding put_gates token_of
    factor-name c x {before} {after} {v} e p F =
        let z : eqb (number_of y.kind) 0 ≡ false = ap (λ (k : ℕ). eqb k 0) e in
        let w = between t y.from y.to in
        let M = plain (wire w) c in
        let I = inverts n negated M x c before before p refl refl F in
        let s = next-sum negated c in
        record {
          to = y.to;
          start = F.start;
          token = F.token;
          stop = refl;
          on = omega (arith, O.on, O.token.start, O.token.onward);
          more = omega (arith, F.free, s);
          few = omega (arith, F.free, s, O.on, O.token.start, O.token.onward);
          gives = λ k ts q a.
              let A = O.ahead k ts q a in
              let G = first t O.place (number_of y.kind) y.from y.to O.token A.more A.left z in
              let g : name w ≡ G.token = some_same (name w) G.token (sym (ap (λ (j : ℕ). token_of j w) e) ∙ G.is) in
              let u : A.more ≡ name w ∷ G.more = G.split ∙ ap (λ (j : Token). j ∷ G.more) (sym g) in
              let b = name-turn negated k w G.more (subst (λ (j : List Token). Accepts j (at (operand_phase negated) k)) u
              A.onward) in
              record {
                rest = G.more;
                left = G.left;
                M = invert negated M;
                read = subst (λ (j : List Token). Read factor_tokens factor_made wire k c j G.more (invert negated M))
                    (sym (A.split ∙ ap (λ (j : List Token). tilde negated ++ j) u)) (name-read negated w G.more b);
                value = I.0;
                free = I.1;
                stored = I.2;
              };
        }

    pub factor-group : (c : ℕ) {before now after : Tables} {e v : Value} → (number_of y.kind) ≡ 7
        → ExprIs wire t n y.to c before now e
        → Finished t n negated e.wire e.next e.token.to now after v → FactorIs wire t n from c before after v
    factor-group c {before} {now} {after} {e} {v} h E F =
        let z : eqb (number_of y.kind) 0 ≡ false = ap (λ (k : ℕ). eqb k 0) h in
        let s = next-sum negated e.next in
        record {
          to = e.token.to;
          start = F.start;
          token = F.token;
          stop = refl;
          on = omega (arith, O.on, O.token.start, O.token.onward, E.on, E.token.start, E.token.onward);
          more = omega (arith, F.free, s, E.more);
          few = omega (arith, F.free, s, O.on, O.token.start, O.token.onward, E.few, E.on, E.token.start, E.token.onward);
          gives = λ k ts q a.
              let A = O.ahead k ts q a in
              let G = first t O.place (number_of y.kind) y.from y.to O.token A.more A.left z in
              let u = mark-first t 7 (ascii "(") open-marked h G in
              let b = open_turn negated k G.more (subst (λ (j : List Token). Accepts j (at (operand_phase negated) k)) u
              A.onward) in
              let X = E.gives (suc k) G.more G.left b in
              let C = closing k X in
              let r = subst (λ (j : List Token). Read expr_tokens expr_made wire (suc k) c G.more j X.M) C.2 X.read in
              let I = inverts n negated X.M e.wire e.next before now X.value X.free X.stored F in
              record {
                rest = C.0;
                left = C.1;
                M = invert negated X.M;
                read = subst (λ (j : List Token). Read factor_tokens factor_made wire k c j C.0 (invert negated X.M))
                    (sym (A.split ∙ ap (λ (j : List Token). tilde negated ++ j) u)) (group-read negated r);
                value = I.0;
                free = I.1;
                stored = I.2;
              };
        }
      where
        -- the parenthesis that ends it
        closing : (k : ℕ) {ts : List Token} → (X : Gives expr_tokens expr_made wire t n (suc k) c E.to ts before now e)
            → (us : List Token) × (tokens (drop e.token.to t) ≡ some us) × (X.rest ≡ mark (ascii ")") ∷ us)
        closing k X = on_bool (eqb (number_of e.token.kind) 0)
            (λ d. absurd (some-following (suc k) (subst (λ (j : List Token). Accepts j (at after_operand (suc k)))
            (none_left t E.to (number_of e.token.kind) E.start e.token.to E.token X.rest X.left d) X.read.onward)))
            (λ d. let G = first t E.to (number_of e.token.kind) E.start e.token.to E.token X.rest X.left d in
            let q = token-code (number_of e.token.kind) (between t E.start e.token.to) G.token G.is in
            let C = close-first k G.token G.more (subst (λ (j : List Token). Accepts j (at after_operand (suc k))) G.split
            X.read.onward)
            (ap no_operator (sym q) ∙ E.stop) in
            (G.more, G.left, G.split ∙ C.0))

    -- no operand
    pub factor-none : (c : ℕ) {before after : Tables} {v : Value} → ((number_of y.kind) ≡ 15 → ⊥)
        → ((number_of y.kind) ≡ 7 → ⊥)
        → Finished t n false 0 c y.to before after v
        → FactorIs wire t n from c before after v
    factor-none c {before} {after} {v} f g F = record {
      to = y.to;
      start = F.start;
      token = F.token;
      stop = refl;
      on = omega (arith, O.on, O.token.start, O.token.onward);
      more = omega (arith, F.free);
      few = omega (arith, F.free, O.on, O.token.start, O.token.onward);
      gives = λ k ts q a. absurd (contradiction k ts q a);
    }
      where
        contradiction : (k : ℕ) (ts : List Token) → tokens (drop from t) ≡ some ts → Accepts ts (at on_operand k) → ⊥
        contradiction k ts q a =
            let A = O.ahead k ts q a in
            on_bool (eqb (number_of y.kind) 0)
            (λ d. some-operand negated k (subst (λ (j : List Token). Accepts j (at (operand_phase negated) k))
            (none_left t O.place (number_of y.kind) y.from y.to O.token A.more A.left d) A.onward))
            (λ d. let G = first t O.place (number_of y.kind) y.from y.to O.token A.more A.left d in
            let q = token-code (number_of y.kind) (between t y.from y.to) G.token G.is in
            start-code negated k G.token G.more (subst (λ (j : List Token). Accepts j (at (operand_phase negated) k))
            G.split A.onward)
            (λ h k. eqb-false (number_of y.kind) 12 (O.once h) (q ∙ k)) (λ k. f (q ∙ k)) (λ k. g (q ∙ k)))

-- ---- terms and expressions

-- an operator's value: the wire of its gate, and the token after its right operand
abbrev pub joined : Value → Value
joined u = record { wire = u.next; next = u.next + 1; token = u.token }

and-marked : (w : List ℕ) → token_of 13 w ≡ some (mark (ascii "&"))
unfolding token_of
and-marked w = refl

xor-marked : (w : List ℕ) → token_of 14 w ≡ some (mark (ascii "^"))
unfolding token_of
xor-marked w = refl

and-turn : (k : ℕ) (us : List Token) → Accepts (mark (ascii "&") ∷ us) (at after_operand k)
    → Accepts us (at on_operand k)
unfolding walk
and-turn k us a = a

xor-turn : (k : ℕ) (us : List Token) → Accepts (mark (ascii "^") ∷ us) (at after_operand k)
    → Accepts us (at on_operand k)
unfolding walk
xor-turn k us a = a

module _ (wire : List ℕ → ℕ) (t : List ℕ) (n from c : ℕ) where
  -- the factors of a term, the terms of an expression so far
  abbrev pub Factors : Tables → Tables → Value → Type 0
  Factors = OperandIs term_tokens term_made any wire t n from c

  abbrev pub Terms : Tables → Tables → Value → Type 0
  Terms = OperandIs expr_tokens expr_made no_and wire t n from c

  pub factors-start : {before after : Tables} {v : Value} → FactorIs wire t n from c before after v
      → Factors before after v
  factors-start F = sum-start term_tokens term_made factor_tokens factor_made (ascii "&") 13 And wire t n from c
      (λ k ts rest M R. term-first R) any F

  pub factors-more : {before now now' after : Tables} {v u : Value} → Factors before now v → (number_of v.token.kind)
      ≡ 13
      → FactorIs wire t n v.token.to v.next now now' u
      → after ≡ put_gate n now' (And v.wire u.wire u.next) → Factors before after (joined u)
  factors-more S e R p =
      sum_more term_tokens term_made factor_tokens factor_made (ascii "&") 13 And wire t n from c
      (λ k ts us rest L R l r. term-more l r) and-marked refl and-turn
      any any S e R p

  pub factors-end : {before after : Tables} {v : Value} → Factors before after v → ((number_of v.token.kind) ≡ 13 → ⊥)
      → TermIs wire t n from c before after v
  factors-end {v = v} S h = retest S no_and (let e = ne_eqb (number_of v.token.kind) 13 h in rw e)

  pub terms-start : {before after : Tables} {v : Value} → TermIs wire t n from c before after v → Terms before after v
  terms-start F = sum-start expr_tokens expr_made term_tokens term_made (ascii "^") 14 Xor wire t n from c
      (λ k ts rest M R. expr-first R) no_and F

  pub terms-more : {before now now' after : Tables} {v u : Value} → Terms before now v → (number_of v.token.kind) ≡ 14
      → TermIs wire t n v.token.to v.next now now' u
      → after ≡ put_gate n now' (Xor v.wire u.wire u.next) → Terms before after (joined u)
  terms-more S e R p =
      sum_more expr_tokens expr_made term_tokens term_made (ascii "^") 14 Xor wire t n from c
      (λ k ts us rest L R l r. expr-more l r) xor-marked refl xor-turn no_and
      no_and S e R p

  pub terms-end : {before after : Tables} {v : Value} → Terms before after v → ((number_of v.token.kind) ≡ 14 → ⊥)
      → ExprIs wire t n from c before after v
  terms-end {v = v} S h = retest S no_operator (let e = ne_eqb (number_of v.token.kind) 14 h in rw e S.stop)

-- what a loop over operands keeps: whatever was read at its start, it is read on
pub record Looping (Is : Tables → Tables → Value → Type 0) (o₀ r₀ o r : List ℕ) (v₀ v : Value) : Type 0 where
  pub operands : length o ≡ length o₀
  pub results : length r ≡ length r₀
  pub onward : (before : Tables) → Is before (tables o₀ r₀) v₀ → Is before (tables o r) v

-- a token is left, where the code is not that of the end
abbrev pub left : List ℕ → ℕ → ℕ → ℕ
left t code following = 2 * (length t - following) + cond (eqb code 0) 0 1

-- a sign is no end
pub sign-some : {code k : ℕ} → code ≡ k → eqb k 0 ≡ false → eqb code 0 ≡ false
sign-some e z = ap (λ (x : ℕ). eqb x 0) e ∙ z
