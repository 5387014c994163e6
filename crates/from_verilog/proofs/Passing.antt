-- Tokens passed one after another, up to a semicolon.
use Prim.Native.Nat.{ℕ, ◌≤◌}
use mathlib.Core.Path.{◌≡◌, refl, sym, ap, ◌∙◌}
use mathlib.Core.Bool.{Bool, true, false, cond, ◌&&◌}
use mathlib.Core.List.{List, [], ◌∷◌, ◌++◌, append_assoc}
use mathlib.Core.Option.{some}
use native.Mathlib.Omega.{arith}
use lib.Dec.{eqb, leb}
use lib.ListN.{drop}
use borrow.Author.Tests.{eq-eqb, ne_eqb, eqb-true, eqb-false}
use Rattle.netlist.specs.Lists.{every, ascii}
use Rattle.netlist.proofs.Tests.{on_bool}
use Rattle.netlist.proofs.Questions.{some_same}
use Rattle.verilog.specs.Tokens.{Token, name, mark, tokens}
use Rattle.verilog.specs.Syntax.{Expr, Term, Factor, term, xor, factor, and, read, group, tilde, expr_tokens}
use Rattle.verilog.specs.Syntax.{term_tokens, factor_tokens}
use Rattle.verilog.specs.Rules.{expr_reads, term_reads, factor_reads}
use Rattle.from_verilog.specs.Next.{code_of, token_of, between, TokenAt}
use Rattle.from_verilog.proofs.Firsts.{never, token-code, first, none_left}
use Rattle.from_verilog.specs.Wires.{wire_of}
use Rattle.from_verilog.proofs.Seating.{name-marked}
use Rattle.from_verilog.specs.Parts.{readable, token_passes, names_pass, after_end, PartGives, any, PastIs}

-- ---- one token

pass-none : (p : List ℕ → Bool) → names_pass p [] ≡ false
unfolding names_pass
pass-none p = refl

pass-name : (p : List ℕ → Bool) (w : List ℕ) (ts : List Token) → names_pass p (name w ∷ ts) ≡ (p w && names_pass p ts)
unfolding names_pass
pass-name p w ts = refl

pass-mark : (p : List ℕ → Bool) (x : Token) (ts : List Token) → (code_of x ≡ 15 → ⊥) → (code_of x ≡ 9 → ⊥)
    → names_pass p (x ∷ ts) ≡ names_pass p ts
unfolding names_pass
pass-mark p (name w) ts f g = absurd (f refl)
pass-mark p (mark k) ts f g = rw (ne_eqb (code_of (mark k)) 9 g)

pass-sign : (p : List ℕ → Bool) (x : Token) (ts : List Token) → code_of x ≡ 9 → names_pass p (x ∷ ts) ≡ true
unfolding names_pass
pass-sign p (name w) ts e = absurd (omega (arith, e))
pass-sign p (mark k) ts e = rw (eq-eqb (code_of (mark k)) 9 e)

following-mark : (x : Token) (ts : List Token) → (code_of x ≡ 9 → ⊥) → after_end (x ∷ ts) ≡ after_end ts
unfolding after_end
following-mark x ts g = rw (ne_eqb (code_of x) 9 g)

following-sign : (x : Token) (ts : List Token) → code_of x ≡ 9 → after_end (x ∷ ts) ≡ ts
unfolding after_end
following-sign x ts e = rw (eq-eqb (code_of x) 9 e)

-- ---- an expression

regroup : (a b c : List Token) → (a ++ b) ++ c ≡ a ++ (b ++ c)
regroup a b c = append_assoc a b c

and_assoc : (a b c : Bool) → (a && (b && c)) ≡ ((a && b) && c)
and_assoc true b c = refl
and_assoc false b c = refl

every_append : (p : List ℕ → Bool) (us vs : List (List ℕ)) → every p (us ++ vs) ≡ (every p us && every p vs)
every_append p [] vs = refl
every_append p (u ∷ us) vs = ap (λ (b : Bool). p u && b) (every_append p us vs) ∙ and_assoc (p u) (every p us)
    (every p vs)

module _ (p : List ℕ → Bool) where
  tilde-pass : (negated : Bool) (ts : List Token) → names_pass p (tilde negated ++ ts) ≡ names_pass p ts
  unfolding names_pass
  tilde-pass true ts = refl
  tilde-pass false ts = refl

  tilde-following : (negated : Bool) (ts : List Token) → after_end (tilde negated ++ ts) ≡ after_end ts
  unfolding after_end
  tilde-following true ts = refl
  tilde-following false ts = refl

  single : (a b : Bool) → (a && b) ≡ ((a && true) && b)
  single true b = refl
  single false b = refl

  mutual
    unfolding expr_tokens expr_reads names_pass

    pub expr-pass : (e : Expr) (ts : List Token) → names_pass p (expr_tokens e ++ ts)
        ≡ (every p (expr_reads e) && names_pass p ts)
    expr-pass (term t) ts = term-pass t ts
    expr-pass (xor e t) ts =
        ap (names_pass p) (regroup (expr_tokens e) (mark (ascii "^") ∷ term_tokens t) ts)
        ∙ expr-pass e (mark (ascii "^") ∷ term_tokens t ++ ts)
        ∙ ap (λ (b : Bool). every p (expr_reads e) && b) (term-pass t ts)
        ∙ and_assoc (every p (expr_reads e)) (every p (term_reads t)) (names_pass p ts)
        ∙ ap (λ (b : Bool). b && names_pass p ts) (sym (every_append p (expr_reads e) (term_reads t)))

    term-pass : (t : Term) (ts : List Token) → names_pass p (term_tokens t ++ ts)
        ≡ (every p (term_reads t) && names_pass p ts)
    term-pass (factor f) ts = factor-pass f ts
    term-pass (and t f) ts =
        ap (names_pass p) (regroup (term_tokens t) (mark (ascii "&") ∷ factor_tokens f) ts)
        ∙ term-pass t (mark (ascii "&") ∷ factor_tokens f ++ ts)
        ∙ ap (λ (b : Bool). every p (term_reads t) && b) (factor-pass f ts)
        ∙ and_assoc (every p (term_reads t)) (every p (factor_reads f)) (names_pass p ts)
        ∙ ap (λ (b : Bool). b && names_pass p ts) (sym (every_append p (term_reads t) (factor_reads f)))

    factor-pass : (f : Factor) (ts : List Token) → names_pass p (factor_tokens f ++ ts)
        ≡ (every p (factor_reads f) && names_pass p ts)
    factor-pass (read negated w) ts =
        ap (names_pass p) (regroup (tilde negated) (name w ∷ []) ts) ∙ tilde-pass negated (name w ∷ ts)
        ∙ single (p w) (names_pass p ts)
    factor-pass (group negated e) ts =
        ap (names_pass p) (regroup (tilde negated ++ mark (ascii "(") ∷ expr_tokens e) (mark (ascii ")") ∷ []) ts
        ∙ regroup (tilde negated) (mark (ascii "(") ∷ expr_tokens e) (mark (ascii ")") ∷ ts))
        ∙ tilde-pass negated (mark (ascii "(") ∷ expr_tokens e ++ mark (ascii ")") ∷ ts)
        ∙ expr-pass e (mark (ascii ")") ∷ ts)

  mutual
    unfolding expr_tokens after_end

    pub expr-following : (e : Expr) (ts : List Token) → after_end (expr_tokens e ++ ts) ≡ after_end ts
    expr-following (term t) ts = term-following t ts
    expr-following (xor e t) ts = ap after_end (regroup (expr_tokens e) (mark (ascii "^") ∷ term_tokens t) ts)
        ∙ expr-following e
        (mark (ascii "^") ∷ term_tokens t ++ ts) ∙ term-following t ts

    term-following : (t : Term) (ts : List Token) → after_end (term_tokens t ++ ts) ≡ after_end ts
    term-following (factor f) ts = factor-following f ts
    term-following (and t f) ts = ap after_end (regroup (term_tokens t) (mark (ascii "&") ∷ factor_tokens f) ts)
        ∙ term-following t
        (mark (ascii "&") ∷ factor_tokens f ++ ts) ∙ factor-following f ts

    factor-following : (f : Factor) (ts : List Token) → after_end (factor_tokens f ++ ts) ≡ after_end ts
    factor-following (read negated w) ts = ap after_end (regroup (tilde negated) (name w ∷ []) ts)
        ∙ tilde-following negated (name w ∷ ts)
    factor-following (group negated e) ts =
        ap after_end (regroup (tilde negated ++ mark (ascii "(") ∷ expr_tokens e) (mark (ascii ")") ∷ []) ts
        ∙ regroup (tilde negated) (mark (ascii "(") ∷ expr_tokens e) (mark (ascii ")") ∷ ts))
        ∙ tilde-following negated (mark (ascii "(") ∷ expr_tokens e ++ mark (ascii ")") ∷ ts)
        ∙ expr-following e (mark (ascii ")") ∷ ts)

-- ---- the loop

pub record Ahead (t : List ℕ) (p : List ℕ → Bool) (place : ℕ) (ts : List Token) : Type 0 where
  pub rest : List Token
  pub left : tokens (drop place t) ≡ some rest
  pub pass : names_pass p ts ≡ names_pass p rest
  pub following : after_end ts ≡ after_end rest

pub record Passing (t : List ℕ) (p : List ℕ → Bool) (at code from to : ℕ) : Type 0 where
  pub place : ℕ
  pub token : TokenAt t place code from to
  pub on : at ≤ place
  pub gives : (ts : List Token) → tokens (drop at t) ≡ some ts → Ahead t p place ts

module _ {t : List ℕ} {p : List ℕ → Bool} {at : ℕ} where
  module _ {code from to : ℕ} (P : Passing t p at code from to) where
    pub pass_on : (code ≡ 9 → ⊥) → token_passes p code (between t from to) ≡ true → {code' from' to' : ℕ}
        → TokenAt t to code' from' to' → Passing t p at code' from' to'
    pass_on n e A = record {
      place = to;
      token = A;
      on = omega (arith, P.on, P.token.start, P.token.onward);
      gives = λ ts q.
          let H = P.gives ts q in
          let w = between t from to in
          let z = some-code e in
          let F = first t P.place code from to P.token H.rest H.left z in
          let c = token-code code w F.token F.is in
          record {
            rest = F.more;
            left = F.left;
            pass = H.pass ∙ ap (names_pass p) F.split ∙ passed z F.token F.more F.is c;
            following = H.following ∙ ap after_end F.split ∙ following-mark F.token F.more (λ h. n (c ∙ h));
          };
    }
      where
        some-code : token_passes p code (between t from to) ≡ true → eqb code 0 ≡ false
        some-code e = on_bool (eqb code 0) (λ z. absurd (never (sym (rw z at e)))) (λ z. z)

        passed : eqb code 0 ≡ false → (x : Token) (us : List Token) → token_of code (between t from to) ≡ some x → code
            ≡ code_of x
            → names_pass p (x ∷ us) ≡ names_pass p us
        passed z x us i c = on_bool (eqb code 15)
            (λ h. let w = between t from to in
            let nm : name w ≡ x = some_same (name w) x (sym (ap (λ (j : ℕ). token_of j w) (eqb-true code 15 h)
            ∙ name-marked w) ∙ i) in
            let k : p w ≡ true = rw (z, h) at e in
            ap (λ (y : Token). names_pass p (y ∷ us)) (sym nm) ∙ pass-name p w us
            ∙ ap (λ (b : Bool). b && names_pass p us) k)
            (λ h. pass-mark p x us (λ y. eqb-false code 15 h (c ∙ y)) (λ y. n (c ∙ y)))

    pub pass-bad : (code ≡ 9 → ⊥) → token_passes p code (between t from to) ≡ false → PartGives t p at false to
    pass-bad n e = record {
      on = omega (arith, P.on, P.token.start, P.token.onward);
      within = P.token.within;
      gives = λ ts q. let H = P.gives ts q in record {
        said = sym (H.pass ∙ bad H.rest H.left);
        left
            = λ g. absurd (never (sym g));
      };
    }
      where
        bad : (us : List Token) → tokens (drop P.place t) ≡ some us → names_pass p us ≡ false
        bad us q = on_bool (eqb code 0)
            (λ z. ap (names_pass p) (none_left t P.place code from to P.token us q z) ∙ pass-none p)
            (λ z. let w = between t from to in
            let F = first t P.place code from to P.token us q z in
            on_bool (eqb code 15)
            (λ h. let nm : name w ≡ F.token = some_same (name w) F.token
            (sym (ap (λ (j : ℕ). token_of j w) (eqb-true code 15 h) ∙ name-marked w) ∙ F.is) in
            let k : p w ≡ false = rw (z, h) at e in
            ap (names_pass p) F.split ∙ ap (λ (y : Token). names_pass p (y ∷ F.more)) (sym nm) ∙ pass-name p w F.more
            ∙ ap
            (λ (b : Bool). b && names_pass p F.more) k)
            (λ h. absurd (never (rw (z, h) at e))))

    ended : code ≡ 9 → (us : List Token) → tokens (drop P.place t) ≡ some us → (names_pass p us ≡ true)
        × (tokens (drop to t) ≡ some (after_end us))
    ended n us q =
        let z : eqb code 0 ≡ false = ap (λ (c : ℕ). eqb c 0) n in
        let F = first t P.place code from to P.token us q z in
        let c : code_of F.token ≡ 9 = sym (token-code code (between t from to) F.token F.is) ∙ n in (
          ap (names_pass p) F.split ∙ pass-sign p F.token F.more c,
          F.left
              ∙ ap some (sym (ap after_end F.split ∙ following-sign F.token F.more c)),
        )

    pub pass-end : code ≡ 9 → PartGives t p at true to
    pass-end n = record {
      on = omega (arith, P.on, P.token.start, P.token.onward);
      within = P.token.within;
      gives = λ ts q.
          let H = P.gives ts q in
          let E = ended n H.rest H.left in
          record { said = sym (H.pass ∙ E.0); left = λ g. E.1 ∙ ap some (sym H.following) };
    }

-- the place alone
module _ {t : List ℕ} {at code from to : ℕ} (P : Passing t any at code from to) where
  pub past_end : code ≡ 9 → PastIs t at to
  past_end n = let E = pass-end P n in record { within = E.within; gives = λ ts q h. (E.gives ts q).left refl }

  pub past-none : (code ≡ 9 → ⊥) → code ≡ 0 → PastIs t at to
  past-none n z = let E = pass-bad P n (ap (λ (c : ℕ). token_passes any c (between t from to)) z) in
      record { within = E.within; gives = λ ts q h. absurd (never (sym h ∙ sym (E.gives ts q).said)) }

  pub past-on : (code ≡ 9 → ⊥) → (code ≡ 0 → ⊥) → {code' from' to' : ℕ} → TokenAt t to code' from' to'
      → Passing t any at code' from' to'
  past-on n z A = pass_on P n (rw (ne_eqb code 0 z) (always (eqb code 15))) A
    where
      always : (b : Bool) → cond b true true ≡ true
      always true = refl
      always false = refl

-- ---- whether a token passes

pub passes-name : (t words states : List ℕ) (n c : ℕ) (w : List ℕ) (x : ℕ) → c ≡ 15 → x ≡ wire_of t words states n w
    → leb 5 x ≡ token_passes
    (readable t words states n) c w
unfolding readable
passes-name t words states n c w x e q = ap (leb 5) q
    ∙ sym (ap (λ (k : ℕ). token_passes (readable t words states n) k w) e)
