-- The token at a place as the first of those that follow.
use Prim.Native.Nat.{ℕ, zero, suc, ◌+◌, ◌≤◌, ◌<◌}
use mathlib.Core.Path.{◌≡◌, refl, sym, ap, subst, ◌∙◌}
use mathlib.Core.Bool.{true, false}
use mathlib.Core.List.{List, [], ◌∷◌}
use mathlib.Core.Option.{Option, none, some}
use native.Mathlib.Omega.{arith}
use lib.Dec.{eqb}
use lib.ListN.{drop}
use borrow.Author.Tests.{eqb-true, ne_eqb}
use Rattle.netlist.specs.Lists.{ascii}
use Rattle.netlist.proofs.Tests.{clash, on_bool}
use Rattle.netlist.proofs.Questions.{none-some, some_same}
use Rattle.verilog.specs.Tokens.{Token, name, mark, marks, cons_token, tokens}
use Rattle.from_verilog.specs.Next.{mark_of, code_of, token_of, between, TokenAt}

pub never : true ≡ false → ⊥
never e = clash (cc)

-- ---- the code of a token

mark_code : (c : ℕ) (x : Token) → mark_of c marks ≡ some x → c ≡ code_of x
mark_code zero x e = absurd (none-some x e)
mark_code (suc zero) x e = ap code_of (some_same (mark (ascii "module")) x e)
mark_code (suc (suc zero)) x e = ap code_of (some_same (mark (ascii "input")) x e)
mark_code (suc (suc (suc zero))) x e = ap code_of (some_same (mark (ascii "output")) x e)
mark_code (suc (suc (suc (suc zero)))) x e = ap code_of (some_same (mark (ascii "wire")) x e)
mark_code (suc (suc (suc (suc (suc zero))))) x e = ap code_of (some_same (mark (ascii "assign")) x e)
mark_code (suc (suc (suc (suc (suc (suc zero)))))) x e = ap code_of (some_same (mark (ascii "endmodule")) x e)
mark_code (suc (suc (suc (suc (suc (suc (suc zero))))))) x e = ap code_of (some_same (mark (ascii "(")) x e)
mark_code (suc (suc (suc (suc (suc (suc (suc (suc zero)))))))) x e = ap code_of (some_same (mark (ascii ")")) x e)
mark_code (suc (suc (suc (suc (suc (suc (suc (suc (suc zero))))))))) x e = ap code_of (some_same (mark (ascii ";")) x e)
mark_code (suc (suc (suc (suc (suc (suc (suc (suc (suc (suc zero)))))))))) x e
    = ap code_of (some_same (mark (ascii ",")) x e)
mark_code (suc (suc (suc (suc (suc (suc (suc (suc (suc (suc (suc zero))))))))))) x e
    = ap code_of (some_same (mark (ascii "=")) x e)
mark_code (suc (suc (suc (suc (suc (suc (suc (suc (suc (suc (suc (suc zero)))))))))))) x e
    = ap code_of (some_same (mark (ascii "~")) x e)
mark_code (suc (suc (suc (suc (suc (suc (suc (suc (suc (suc (suc (suc (suc zero))))))))))))) x e
    = ap code_of (some_same (mark (ascii "&")) x e)
mark_code (suc (suc (suc (suc (suc (suc (suc (suc (suc (suc (suc (suc (suc (suc zero)))))))))))))) x e
    = ap code_of (some_same (mark (ascii "^")) x e)
mark_code (suc (suc (suc (suc (suc (suc (suc (suc (suc (suc (suc (suc (suc (suc (suc c))))))))))))))) x e
    = absurd (none-some x e)

pub token-code : (c : ℕ) (w : List ℕ) (x : Token) → token_of c w ≡ some x → c ≡ code_of x
unfolding token_of
token-code c w x e =
    on_bool (eqb c 15)
    (λ h. eqb-true c 15 h ∙ ap code_of (some_same (name w) x (rw h at e)))
    (λ h. mark_code c x (rw h at e))

-- ---- the first token

-- the tokens ts are that of a code and the bytes w, and those after a place
pub record First (t : List ℕ) (c : ℕ) (w : List ℕ) (following : ℕ) (ts : List Token) : Type 0 where
  pub token : Token
  pub more : List Token
  pub is : token_of c w ≡ some token
  pub split : ts ≡ token ∷ more
  pub left : tokens (drop following t) ≡ some more

pub first : (t : List ℕ) (at c s b : ℕ) → TokenAt t at c s b → (ts : List Token) → tokens (drop at t) ≡ some ts
    → eqb c 0 ≡ false → First t c (between t s b) b ts
first t at c s b A ts e z = go (token_of c (between t s b)) (tokens (drop b t)) refl refl (rw z at (sym A.read ∙ e))
  where
    go : (k : Option Token) (o : Option (List Token)) → token_of c (between t s b) ≡ k → tokens (drop b t) ≡ o
        → cons_token k o ≡ some ts → First t c (between t s b) b ts
    go none o p q h = absurd (none-some ts h)
    go (some k) none p q h = absurd (none-some ts h)
    go (some k) (some us) p q h = record {
      token = k;
      more = us;
      is = p;
      split = sym (some_same (k ∷ us) ts h);
      left
          = q;
    }

-- after the last token there is none
pub none_left : (t : List ℕ) (at c s b : ℕ) → TokenAt t at c s b → (ts : List Token) → tokens (drop at t) ≡ some ts
    → eqb c 0 ≡ true → ts ≡ []
none_left t at c s b A ts e z = let h : some [] ≡ some ts = rw z at (sym A.read ∙ e) in sym (some_same [] ts h)

-- ---- what holds of each code

-- of the marks, counted from i
abbrev pub EachMark : (ℕ → Token → Type 0) → ℕ → List (List ℕ) → Type 0
EachMark P i [] = Unit {0}
EachMark P i (m ∷ ms) = P (suc i) (mark m) × EachMark P (suc i) ms

by-mark : (P : ℕ → Token → Type 0) (ms : List (List ℕ)) (i : ℕ) → EachMark P i ms → (c : ℕ) (x : Token) → mark_of c ms
    ≡ some x → P (c + i) x
by-mark P [] i f c x e = absurd (none-some x e)
by-mark P (m ∷ ms) i f zero x e = absurd (none-some x e)
by-mark P (m ∷ ms) i f (suc zero) x e =
    let z : suc i ≡ 1 + i = omega arith in subst (λ (y : Token). P (1 + i) y) (some_same (mark m) x e)
    (subst (λ (y : ℕ). P y (mark m)) z f.0)
by-mark P (m ∷ ms) i f (suc (suc c)) x e =
    let z : suc c + suc i ≡ suc (suc c) + i = omega arith in subst (λ (y : ℕ). P y x) z
    (by-mark P ms (suc i) f.1 (suc c) x e)

pub by_code : (P : ℕ → Token → Type 0) (w : List ℕ) → P 15 (name w) → EachMark P 0 marks → (c : ℕ) (x : Token)
    → token_of c w ≡ some x → P c x
unfolding token_of
by_code P w f g c x e =
    on_bool (eqb c 15)
    (λ h. subst (λ (y : Token). P c y) (some_same (name w) x (rw h at e))
    (subst (λ (y : ℕ). P y (name w)) (sym (eqb-true c 15 h)) f))
    (λ h. let z : c + 0 ≡ c = omega arith in subst (λ (y : ℕ). P y x) z (by-mark P marks 0 g c x (rw h at e)))

-- codes 1 to 15 are those of tokens
pub some-token : (c : ℕ) (w : List ℕ) → eqb c 0 ≡ false → c ≤ 15 → (x : Token) × (token_of c w ≡ some x)
unfolding token_of
some-token zero w z h = absurd (never z)
some-token (suc zero) w z h = (mark (ascii "module"), refl)
some-token (suc (suc zero)) w z h = (mark (ascii "input"), refl)
some-token (suc (suc (suc zero))) w z h = (mark (ascii "output"), refl)
some-token (suc (suc (suc (suc zero)))) w z h = (mark (ascii "wire"), refl)
some-token (suc (suc (suc (suc (suc zero))))) w z h = (mark (ascii "assign"), refl)
some-token (suc (suc (suc (suc (suc (suc zero)))))) w z h = (mark (ascii "endmodule"), refl)
some-token (suc (suc (suc (suc (suc (suc (suc zero))))))) w z h = (mark (ascii "("), refl)
some-token (suc (suc (suc (suc (suc (suc (suc (suc zero)))))))) w z h = (mark (ascii ")"), refl)
some-token (suc (suc (suc (suc (suc (suc (suc (suc (suc zero))))))))) w z h = (mark (ascii ";"), refl)
some-token (suc (suc (suc (suc (suc (suc (suc (suc (suc (suc zero)))))))))) w z h = (mark (ascii ","), refl)
some-token (suc (suc (suc (suc (suc (suc (suc (suc (suc (suc (suc zero))))))))))) w z h = (mark (ascii "="), refl)
some-token (suc (suc (suc (suc (suc (suc (suc (suc (suc (suc (suc (suc zero)))))))))))) w z h = (mark (ascii "~"), refl)
some-token (suc (suc (suc (suc (suc (suc (suc (suc (suc (suc (suc (suc (suc zero))))))))))))) w z h
    = (mark (ascii "&"), refl)
some-token (suc (suc (suc (suc (suc (suc (suc (suc (suc (suc (suc (suc (suc (suc zero)))))))))))))) w z h
    = (mark (ascii "^"), refl)
some-token (suc (suc (suc (suc (suc (suc (suc (suc (suc (suc (suc (suc (suc (suc (suc zero))))))))))))))) w z h
    = (name w, refl)
some-token (suc (suc (suc (suc (suc (suc (suc (suc (suc (suc (suc (suc (suc (suc (suc (suc c)))))))))))))))) w z h
    = absurd (omega arith)

pub no-token : (c : ℕ) (w : List ℕ) → 15 < c → token_of c w ≡ none
unfolding token_of
no-token c w h = rw (ne_eqb c 15 (λ e. omega (arith, e))) (beyond c h)
  where
    beyond : (c : ℕ) → 15 < c → mark_of c marks ≡ none
    beyond zero h = absurd (omega arith)
    beyond (suc zero) h = absurd (omega arith)
    beyond (suc (suc zero)) h = absurd (omega arith)
    beyond (suc (suc (suc zero))) h = absurd (omega arith)
    beyond (suc (suc (suc (suc zero)))) h = absurd (omega arith)
    beyond (suc (suc (suc (suc (suc zero))))) h = absurd (omega arith)
    beyond (suc (suc (suc (suc (suc (suc zero)))))) h = absurd (omega arith)
    beyond (suc (suc (suc (suc (suc (suc (suc zero))))))) h = absurd (omega arith)
    beyond (suc (suc (suc (suc (suc (suc (suc (suc zero)))))))) h = absurd (omega arith)
    beyond (suc (suc (suc (suc (suc (suc (suc (suc (suc zero))))))))) h = absurd (omega arith)
    beyond (suc (suc (suc (suc (suc (suc (suc (suc (suc (suc zero)))))))))) h = absurd (omega arith)
    beyond (suc (suc (suc (suc (suc (suc (suc (suc (suc (suc (suc zero))))))))))) h = absurd (omega arith)
    beyond (suc (suc (suc (suc (suc (suc (suc (suc (suc (suc (suc (suc zero)))))))))))) h = absurd (omega arith)
    beyond (suc (suc (suc (suc (suc (suc (suc (suc (suc (suc (suc (suc (suc zero))))))))))))) h = absurd (omega arith)
    beyond (suc (suc (suc (suc (suc (suc (suc (suc (suc (suc (suc (suc (suc (suc zero)))))))))))))) h
        = absurd (omega arith)
    beyond (suc (suc (suc (suc (suc (suc (suc (suc (suc (suc (suc (suc (suc (suc (suc c))))))))))))))) h = refl
