-- Assignments read one after another.
use Prim.Native.Nat.{ℕ, zero, suc, ◌≤◌, ◌<◌}
use mathlib.Core.Path.{◌≡◌, refl, sym, ap, ◌∙◌, subst}
use mathlib.Core.Bool.{true}
use mathlib.Core.List.{List, [], ◌∷◌, ◌++◌, append_assoc}
use mathlib.Core.Option.{some}
use native.Mathlib.Omega.{arith}
use lib.Dec.{eqb}
use lib.ListN.{length, drop, length-set}
use Rattle.netlist.specs.Lists.{same_bytes, ascii}
use Rattle.netlist.specs.Table.{Tables, tables}
use Rattle.netlist.proofs.Tests.{on_bool}
use Rattle.netlist.proofs.Questions.{some_same}
use Rattle.verilog.specs.Tokens.{Token, name, mark, tokens}
use Rattle.verilog.specs.Syntax.{Expr, Assign, expr_tokens, assign_tokens, each_tokens}
use Rattle.verilog.specs.Made.{Made, expr_made}
use Rattle.verilog.specs.Walk.{at, flat, walk, on_assign, on_target, on_equals, on_operand, after_operand}
use Rattle.verilog.specs.Reading.{Accepts}
use Rattle.verilog.proofs.Listing.{same-equal, each_snoc}
use Rattle.verilog.proofs.Descent.{following-cases}
use Rattle.from_verilog.specs.Kind.{number_of}
use Rattle.from_verilog.specs.Next.{code_of, token_of, between, TokenAt}
use Rattle.from_verilog.proofs.Firsts.{never, token-code, First, first, none_left}
use Rattle.from_verilog.specs.Names.{found}
use Rattle.from_verilog.specs.Puts.{put_gates}
use Rattle.from_verilog.specs.Wires.{wire_of, set_before, given}
use Rattle.from_verilog.specs.Operands.{Ready, no_operator, ExprIs}
use Rattle.from_verilog.specs.Equations.{Laid, lay, lay_all, unlaid, Laying, EquationsIs}
use Rattle.from_verilog.specs.declared.expression.Value.{Value}
use Rattle.from_verilog.proofs.Joins.{puts-append, mark-first, head-same, some-following, left, sign-some}

-- ---- which token comes next

-- the first token, where there must be one
some_first : {t : List ℕ} {place c s b : ℕ} → TokenAt t place c s b → (ts : List Token) → tokens (drop place t)
    ≡ some ts → (ts ≡ [] → ⊥) → First t c (between t s b) b ts
some_first {t} {place} {c} {s} {b} A ts e f =
    on_bool (eqb c 0) (λ z. absurd (f (none_left t place c s b A ts e z))) (λ z. first t place c s b A ts e z)

module _ (x : Token) (us : List Token) where
  target_first : Accepts (x ∷ us) (flat on_target) → (code_of x ≡ 15) × Accepts us (flat on_equals)
  unfolding walk
  target_first a = go x a
    where
      go : (x : Token) → Accepts (x ∷ us) (flat on_target) → (code_of x ≡ 15) × Accepts us (flat on_equals)
      go (name w) a = (refl, a)
      go (mark k) a = absurd a

  equals-first : Accepts (x ∷ us) (flat on_equals) → (x ≡ mark (ascii "=")) × Accepts us (at on_operand 0)
  unfolding walk
  equals-first a = go x a
    where
      go : (x : Token) → Accepts (x ∷ us) (flat on_equals) → (x ≡ mark (ascii "=")) × Accepts us (at on_operand 0)
      go (name w) a = absurd a
      go (mark k) a = on_bool (same_bytes k (ascii "=")) (λ e. (ap mark (same-equal k (ascii "=") e), rw e at a))
          (λ e. absurd (rw e at a))

  end-first : Accepts (x ∷ us) (at after_operand 0) → no_operator (code_of x) ≡ true → (x ≡ mark (ascii ";"))
      × Accepts us (flat on_assign)
  end-first a h =
      following-cases 0 (x ∷ us) a
      (λ vs e b. absurd (never (sym h ∙ ap (λ (y : Token). no_operator (code_of y))
      (head-same (x ∷ us) x (mark (ascii "&")) us vs refl e).0)))
      (λ vs e b. absurd (never (sym h ∙ ap (λ (y : Token). no_operator (code_of y))
      (head-same (x ∷ us) x (mark (ascii "^")) us vs refl e).0)))
      (λ j vs q e b. absurd (omega arith))
      (λ vs q e b. let s = head-same (x ∷ us) x (mark (ascii ";")) us vs refl e
      in (s.0, subst (λ (y : List Token). Accepts y (flat on_assign)) (sym s.1) b))

some-target : Accepts [] (flat on_target) → ⊥
unfolding walk
some-target a = a

some-equals : Accepts [] (flat on_equals) → ⊥
unfolding walk
some-equals a = a

assign-turn : (us : List Token) → Accepts (mark (ascii "assign") ∷ us) (flat on_assign) → Accepts us (flat on_target)
unfolding walk
assign-turn us a = a

assign-marked : (w : List ℕ) → token_of 5 w ≡ some (mark (ascii "assign"))
unfolding token_of
assign-marked w = refl

name-marked : (w : List ℕ) → token_of 15 w ≡ some (name w)
unfolding token_of
name-marked w = refl

-- ---- one assignment more

lay-snoc : (t words : List ℕ) (n : ℕ) (B : Laid) (xs : List Assign) (a : Assign) → lay_all t words n B (xs ++ a ∷ [])
    ≡ lay t words n (lay_all t words n B xs) a
lay-snoc t words n B [] a = refl
lay-snoc t words n B (x ∷ xs) a = lay-snoc t words n (lay t words n B x) xs a

-- the tokens of one assignment from a place on: where it ends, and its expression
record One (t : List ℕ) (w : List ℕ) (wire : List ℕ → ℕ) (n c : ℕ) (rest : List Token) (before after : Tables)
    (v : Value) : Type 0 where
  value : Expr
  more : List Token
  split : rest ≡ assign_tokens (record { target = w; value = value }) ++ more
  left : tokens (drop v.token.to t) ≡ some more
  onward : Accepts more (flat on_assign)
  wire_is : v.wire ≡ (expr_made value wire c).wire
  next_is : v.next ≡ (expr_made value wire c).next
  stored : after ≡ put_gates n before (expr_made value wire c).gates

module _ {t : List ℕ} {place code start to cx fx tx cy fy ty n c : ℕ} {wire : List ℕ → ℕ} {before after : Tables}
    {v : Value}
    (A : TokenAt t place code start to) (five : code ≡ 5) (X : TokenAt t to cx fx tx) (Y : TokenAt t tx cy fy ty)
    (E : ExprIs wire t n ty c before after v) where
  one : (rest : List Token) → tokens (drop place t) ≡ some rest → Accepts rest (flat on_assign)
      → One t (between t fx tx) wire n c rest before after v
  one rest e a =
      let F = first t place code start to A rest e (sign-some five refl) in
      let s = mark-first t 5 (ascii "assign") assign-marked five F in
      let a₁ = assign-turn F.more (subst (λ (y : List Token). Accepts y (flat on_assign)) s a) in
      let G = some_first X F.more F.left (λ z. some-target (subst (λ (y : List Token). Accepts y (flat on_target)) z
      a₁)) in
      let g = target_first G.token G.more (subst (λ (y : List Token). Accepts y (flat on_target)) G.split a₁) in
      let w = between t fx tx in
      let cw : cx ≡ 15 = token-code cx w G.token G.is ∙ g.0 in
      let nm : name w ≡ G.token = some_same (name w) G.token (sym (ap (λ (j : ℕ). token_of j w) cw ∙ name-marked w)
      ∙ G.is) in
      let H = some_first Y G.more G.left (λ z. some-equals (subst (λ (y : List Token). Accepts y (flat on_equals)) z
      g.1)) in
      let h = equals-first H.token H.more (subst (λ (y : List Token). Accepts y (flat on_equals)) H.split g.1) in
      let K = E.gives 0 H.more H.left h.1 in
      let N = some_first E.token K.rest K.left (λ z. some-following 0
      (subst (λ (y : List Token). Accepts y (at after_operand 0)) z K.read.onward)) in
      let q = token-code (number_of v.token.kind) (between t E.start v.token.to) N.token N.is in
      let d = end-first N.token N.more (subst (λ (y : List Token). Accepts y (at after_operand 0)) N.split
      K.read.onward)
      (ap no_operator (sym q) ∙ E.stop) in
      let m = K.read.made in
      record {
        value = K.read.tree;
        more = N.more;
        split = s ∙ ap (λ (y : List Token). mark (ascii "assign") ∷ y)
            (G.split ∙ ap (λ (y : Token). y ∷ G.more) (sym nm))
            ∙ ap (λ (y : List Token). mark (ascii "assign") ∷ name w ∷ y) (H.split ∙ ap (λ (y : Token). y ∷ H.more) h.0)
            ∙ ap (λ (y : List Token). mark (ascii "assign") ∷ name w ∷ mark (ascii "=") ∷ y)
            (K.read.text ∙ ap (λ (y : List Token). expr_tokens K.read.tree ++ y)
            (N.split ∙ ap (λ (y : Token). y ∷ N.more) d.0))
            ∙ ap (λ (y : List Token). mark (ascii "assign") ∷ name w ∷ mark (ascii "=") ∷ y)
            (sym (append_assoc (expr_tokens K.read.tree) (mark (ascii ";") ∷ []) N.more));
        left = N.left;
        onward = d.1;
        wire_is = K.value ∙ ap (λ (M : Made). M.wire) m;
        next_is = K.free ∙ ap (λ (M : Made). M.next) m;
        stored = K.stored ∙ ap (λ (M : Made). put_gates n before M.gates) m;
      }

-- ---- the loop

pub record Going (t words wires₀ o₀ r₀ : List ℕ) (count n at c code to free : ℕ) (wires o r : List ℕ) : Type 0 where
  pub place : ℕ
  pub start : ℕ
  pub token : TokenAt t place code start to
  pub ready : Ready t wires count n place free
  pub more : c ≤ free
  pub wide : length wires ≡ length wires₀
  pub operands : length o ≡ length o₀
  pub results : length r ≡ length r₀
  pub gives : (ts : List Token) → tokens (drop at t) ≡ some ts → Accepts ts (flat on_assign)
      → Laying t words n count wires₀ c place ts (tables o₀ r₀)
      (tables o r) wires free

given-length : (t words wires : List ℕ) (n : ℕ) (w : List ℕ) (x : ℕ) → length (given t words wires n w x) ≡ length wires
unfolding given
given-length t words wires n w x = go (found t words w n)
  where
    go : (p : ℕ) → length (set_before p wires x) ≡ length wires
    go zero = refl
    go (suc i) = length-set wires i x

module _ {t words wires₀ o₀ r₀ : List ℕ} {count n at c : ℕ} where
  pub go-start : {code start to : ℕ} → Ready t wires₀ count n at c → TokenAt t at code start to
      → Going t words wires₀ o₀ r₀ count n at c code to c wires₀ o₀ r₀
  unfolding put_gates
  go-start {code} {start} R A = record {
    place = at;
    start = start;
    token = A;
    ready = R;
    more = omega arith;
    wide = refl;
    operands = refl;
    results = refl;
    gives = λ ts e a. record {
      assigns = [];
      rest = ts;
      split = refl;
      left = e;
      onward = a;
      next = refl;
      wired
          = refl;
      stored = refl;
    };
  }

  module _ {code to free : ℕ} {wires o r : List ℕ} (G : Going t words wires₀ o₀ r₀ count n at c code to free wires o r)
    where
      pub go-end : (code ≡ 5 → ⊥) → EquationsIs t words n count at wires₀ c (tables o₀ r₀) (tables o r) wires free
      go-end h = record {
        place = G.place;
        start = G.start;
        following = to;
        code = code;
        token = G.token;
        other = h;
        more
            = G.more;
        gives = G.gives;
      }

      module _ {cx fx tx cy fy ty : ℕ} (X : TokenAt t to cx fx tx) (Y : TokenAt t tx cy fy ty) where
        pub go-ready : Ready t wires count n ty free
        go-ready = record {
          wired = G.ready.wired;
          within = Y.within;
          first = G.ready.first;
          room = omega (
            arith,
            G.ready.room,
            G.token.start,
            G.token.onward,
            X.start,
            X.onward,
            Y.start,
            Y.onward,
            Y.within,
          );
        }

        module _ {o' r' : List ℕ} {v : Value} (E : ExprIs (wire_of t words wires count) t n ty free (tables o r)
            (tables o' r') v) where
          pub go-less : {code' start' to' : ℕ} → code ≡ 5 → TokenAt t v.token.to code' start' to'
              → left t code' to' < left t code to
          go-less {code'} five A =
              let z = sign-some five refl in
              on_bool (eqb code' 0)
              (λ h. rw (h, z) (omega (
                arith,
                X.start,
                X.onward,
                Y.start,
                Y.onward,
                E.on,
                E.token.start,
                E.token.onward,
                A.start,
                A.onward,
              )))
              (λ h. rw (h, z) (omega (
                arith,
                X.start,
                X.onward,
                Y.start,
                Y.onward,
                E.on,
                E.token.start,
                E.token.onward,
                A.start,
                A.on h,
                A.within,
              )))

          pub go_on : {code' start' to' : ℕ} {wires' : List ℕ} → code ≡ 5 → length o' ≡ length o → length r' ≡ length r
              → wires' ≡ given t words wires count (between t fx tx) v.wire → TokenAt t v.token.to code' start' to'
              → Going t words wires₀ o₀ r₀ count n at c code' to' v.next wires' o' r'
          go_on {code'} {start'} {to'} {wires'} five lo lr w A =
              let wl : length wires' ≡ length wires = ap length w ∙ given-length t words wires count (between t fx tx)
              v.wire in
              record {
                place = v.token.to;
                start = start';
                token = A;
                ready = record {
                  wired = omega (arith, G.ready.wired, wl);
                  within = E.token.within;
                  first = omega (arith, G.ready.first, E.more);
                  room = omega (
                    arith,
                    G.ready.room,
                    G.token.start,
                    G.token.onward,
                    X.start,
                    X.onward,
                    Y.start,
                    Y.onward,
                    E.few,
                    E.on,
                    E.token.start,
                    E.token.onward,
                    E.token.within,
                  );
                };
                more = omega (arith, G.more, E.more);
                wide = wl ∙ G.wide;
                operands = lo ∙ G.operands;
                results = lr ∙ G.results;
                gives = λ ts e a. grown five w (G.gives ts e a);
              }
            where
              grown : {wires' : List ℕ} {ts : List Token} → code ≡ 5 → wires'
                  ≡ given t words wires count (between t fx tx) v.wire
                  → Laying t words n count wires₀ c G.place ts (tables o₀ r₀) (tables o r) wires free
                  → Laying t words n count wires₀ c v.token.to ts (tables o₀ r₀) (tables o' r') wires' v.next
              grown {wires'} {ts} five w L =
                  let O = one G.token five X Y E L.rest L.left L.onward in
                  let a : Assign = record { target = between t fx tx; value = O.value } in
                  let B₀ = unlaid wires₀ c in
                  let B = lay_all t words count B₀ L.assigns in
                  let s = lay-snoc t words count B₀ L.assigns a in
                  let m : expr_made O.value (wire_of t words wires count) free
                  ≡ expr_made O.value (wire_of t words B.wires count) B.next
                  = λ i. expr_made O.value (wire_of t words (L.wired i) count) (L.next i) in
                  let gs = (expr_made O.value (wire_of t words B.wires count) B.next).gates in
                  record {
                    assigns = L.assigns ++ a ∷ [];
                    rest = O.more;
                    split = L.split ∙ ap (λ (y : List Token). each_tokens assign_tokens L.assigns ++ y) O.split
                        ∙ sym (append_assoc (each_tokens assign_tokens L.assigns) (assign_tokens a) O.more)
                        ∙ ap (λ (y : List Token). y ++ O.more) (sym (each_snoc assign_tokens L.assigns a));
                    left = O.left;
                    onward = O.onward;
                    next = O.next_is ∙ ap (λ (M : Made). M.next) m ∙ ap (λ (y : Laid). y.next) (sym s);
                    wired = w ∙ (λ i. given t words (L.wired i) count (between t fx tx)
                        ((O.wire_is ∙ ap (λ (M : Made). M.wire) m) i)) ∙ ap
                        (λ (y : Laid). y.wires) (sym s);
                    stored = O.stored ∙ ap (λ (M : Made). put_gates n (tables o r) M.gates) m
                        ∙ ap (λ (y : Tables). put_gates n y gs) L.stored
                        ∙ sym (puts-append n (tables o₀ r₀) B.gates gs)
                        ∙ ap (λ (y : Laid). put_gates n (tables o₀ r₀) y.gates) (sym s);
                  }
