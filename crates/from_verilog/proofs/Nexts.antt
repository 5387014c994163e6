-- White bytes skipped, and the token that follows.
use Prim.Native.Nat.{ℕ, zero, suc, ◌+◌, ◌-◌, ◌≤◌, ◌<◌}
use mathlib.Core.Path.{◌≡◌, refl, subst, sym, ap, ◌∙◌}
use mathlib.Core.Bool.{Bool, true, false, cond, ◌&&◌}
use mathlib.Core.List.{List, [], ◌∷◌}
use mathlib.Core.Option.{Option}
use native.Mathlib.Numerals.{add-one}
use native.Mathlib.Omega.{arith}
use lib.Dec.{T, eqb, leb}
use borrow.Author.Tests.{leb-true, leb-false}
use lib.ListN.{length, take, drop, get_or, drop_of_length-le}
use lib.Seq.{drop-cons}
use Rattle.std.specs.Prelude as P
use Rattle.std.specs.Option.{MatchOption, unwrap_or}
use Rattle.netlist.specs.Lists.{every, same_bytes, ascii}
use Rattle.netlist.proofs.Tests.{on_bool, pair, is_true, true-T}
use Rattle.text.specs.Line.{take_while, drop_while, Scanned}
use Rattle.text.proofs.Scans.{front-back, scan-front}
use Rattle.verilog.specs.Tokens.{is_letter, in_word, is_sign, starts, is_white, Token, token, cons_token, tokens}
use Rattle.verilog.proofs.Listing.{same-equal}
use Rattle.verilog.proofs.Texts.{end-tokens, word-tokens, sign-tokens, white-tokens, other-tokens}
use Rattle.from_verilog.specs.Next.{sign_code, word_code, token_of, between, White, tokens_from, TokenAt}
use Rattle.from_verilog.proofs.Classes.{never, sign, Sign, white-only}

-- ---- white bytes

record Skipping (t : List ℕ) (at i : ℕ) : Type 0 where
  pub same : tokens (drop at t) ≡ tokens (drop i t)
  pub on : at ≤ i
  pub within : i ≤ length t

module _ (t : List ℕ) where
  skip-start : (i : ℕ) → i ≤ length t → Skipping t i i
  skip-start i h = record { same = refl; on = omega arith; within = h }

  -- the byte at a place, and what follows it
  pub here : (i : ℕ) → i < length t → drop i t ≡ get_or t i 0 ∷ drop (i + 1) t
  here i h = rw (add-one, drop-cons t i 0)

  skip-on : (at i : ℕ) → i < length t → is_white (get_or t i 0) (drop (i + 1) t) ≡ true → Skipping t at i
      → Skipping t at (i + 1)
  skip-on at i h e s =
      let n = white-only (get_or t i 0) (drop (i + 1) t) e in
      record {
        same = s.same ∙ ap tokens (here i h) ∙ white-tokens (get_or t i 0) (drop (i + 1) t) n.0 n.1 e;
        on = omega (arith, s.on);
        within = omega arith;
      }

  skip_stop : (at i : ℕ) → is_white (get_or t i 0) (drop (i + 1) t) ≡ false → Skipping t at i → White t at i
  skip_stop at i e s = record { same = s.same; solid = λ h. e; on = s.on; within = s.within }

  skip-end : (at i : ℕ) → length t ≤ i → Skipping t at i → White t at (length t)
  skip-end at i h s =
      let e : i ≡ length t = omega (arith, s.within) in
      record {
        same = s.same ∙ ap (λ (k : ℕ). tokens (drop k t)) e;
        solid = λ k. absurd (omega (arith, k));
        on
            = omega (arith, s.on);
        within = omega arith;
      }

module _ (t : List ℕ) (at : ℕ) where
  WhiteAt : ℕ → Type 0
  WhiteAt i = is_white (get_or t i 0) (drop (i + 1) t) ≡ true

  skip-more : (n : ℕ) → at + n ≤ length t → ((k : ℕ) → at ≤ k → k < at + n → WhiteAt k) → Skipping t at (at + n)
  unfolding WhiteAt
  skip-more zero h w = let e : at ≡ at + zero = omega arith in subst (Skipping t at) e (skip-start t at (omega arith))
  skip-more (suc n) h w =
      let e : (at + n) + 1 ≡ at + suc n = omega arith in
      subst (Skipping t at) e
      (skip-on t at (at + n) (omega arith) (w (at + n) (omega arith) (omega arith))
      (skip-more n (omega arith) (λ k a b. w k a (omega arith))))

  skip-to : (i : ℕ) → at ≤ i → i ≤ length t → ((k : ℕ) → at ≤ k → k < i → WhiteAt k) → Skipping t at i
  skip-to i a h w =
      let e : at + (i - at) ≡ i = omega arith in
      subst (Skipping t at) e (skip-more (i - at) (omega arith) (λ k b c. w k b (omega arith)))

  -- the first place from here on whose byte is not white, or the end
  pub skipped : at ≤ length t → (r : P.Option ℕ)
      → MatchOption r ((k : ℕ) → at ≤ k → k < length t → is_white (get_or t k 0) (drop (k + 1) t) ≡ true)
      (λ i. (at ≤ i) × (i < length t) × (is_white (get_or t i 0) (drop (i + 1) t) ≡ false)
      × ((k : ℕ) → at ≤ k → k < i → is_white (get_or t k 0) (drop (k + 1) t) ≡ true))
      → White t at (unwrap_or r (length t))
  unfolding WhiteAt
  skipped h P.None w = skip-end t at (length t) (omega arith) (skip-to (length t) h (omega arith) w)
  skipped h (P.Some i) w = skip_stop t at i w.2 (skip-to i w.0 (let l = w.1 in omega arith) w.3)

-- ---- the code of a word

all-front : (p : ℕ → Bool) (s : List ℕ) → T (every p (take_while p s))
all-front p [] = tt
all-front p (x ∷ xs) = on_bool (p x)
    (λ e. rw e (pair (p x) (every p (take_while p xs)) (true-T (p x) e) (all-front p xs))) (λ e. rw e tt)

following-front : (p : ℕ → Bool) (s : List ℕ) → starts p (drop_while p s) ≡ false
following-front p [] = refl
following-front p (x ∷ xs) = on_bool (p x) (λ e. rw e (following-front p xs)) (λ e. rw e e)

-- the token of a word is that of its code
abbrev pub Coded : List ℕ → Type 0
Coded w = T (every in_word w) → token w ≡ token_of (word_code w) w

pub word-coded : (w : List ℕ) → Coded w
unfolding word_code token_of
word-coded w =
    go (ascii "module") (λ t. refl)
    (λ a. go (ascii "input") (λ t. refl)
    (λ b. go (ascii "output") (λ t. refl)
    (λ c. go (ascii "wire") (λ t. refl)
    (λ d. go (ascii "assign") (λ t. refl)
    (λ e. go (ascii "endmodule") (λ t. refl)
    (λ f. go (ascii "(") (λ t. absurd t)
    (λ g. go (ascii ")") (λ t. absurd t)
    (λ h. go (ascii ";") (λ t. absurd t)
    (λ i. go (ascii ",") (λ t. absurd t)
    (λ j. go (ascii "=") (λ t. absurd t)
    (λ k. go (ascii "~") (λ t. absurd t)
    (λ l. go (ascii "&") (λ t. absurd t)
    (λ m. go (ascii "^") (λ t. absurd t)
    (λ n. λ t.
    on_bool (starts is_letter w)
    (λ p. on_bool (leb (length w) 16)
    (λ q. rw (a, b, c, d, e, f, g, h, i, j, k, l, m, n, is_true (every in_word w) t, p, q))
    (λ q. rw (a, b, c, d, e, f, g, h, i, j, k, l, m, n, is_true (every in_word w) t, p, q)))
    (λ p. on_bool (leb (length w) 16)
    (λ q. rw (a, b, c, d, e, f, g, h, i, j, k, l, m, n, p, q))
    (λ q. rw (a, b, c, d, e, f, g, h, i, j, k, l, m, n, p, q)))))))))))))))))
  where
    go : (v : List ℕ) → Coded v → (same_bytes w v ≡ false → Coded w) → Coded w
    go v f g = on_bool (same_bytes w v) (λ e. subst Coded (sym (same-equal w v e)) f) g

word_some : (w : List ℕ) → eqb (word_code w) 0 ≡ false
unfolding word_code
word_some w =
    go (same_bytes w (ascii "module")) 1 _ refl
    (go (same_bytes w (ascii "input")) 2 _ refl
    (go (same_bytes w (ascii "output")) 3 _ refl
    (go (same_bytes w (ascii "wire")) 4 _ refl
    (go (same_bytes w (ascii "assign")) 5 _ refl
    (go (same_bytes w (ascii "endmodule")) 6 _ refl
    (go (leb (length w) 16 && starts is_letter w) 15 16 refl refl))))))
  where
    go : (b : Bool) (x y : ℕ) → eqb x 0 ≡ false → eqb y 0 ≡ false → eqb (cond b x y) 0 ≡ false
    go true x y p q = p
    go false x y p q = q

-- ---- the next token

some_bytes : (t : List ℕ) (from to b : ℕ) (w : List ℕ) → between t from to ≡ b ∷ w → from < to
some_bytes t from to b w f =
    on_bool (leb to from)
    (λ e. let z : to - from ≡ 0 = omega (arith, leb-true to from e) in
    let g : [] ≡ b ∷ w = sym (ap (λ (n : ℕ). take n (drop from t)) z) ∙ f in
    let l = ap length g in
    absurd (omega (arith, l)))
    (leb-false to from)

coded-from : (c : ℕ) (w : List ℕ) (rest : Option (List Token)) → eqb c 0 ≡ false → tokens_from c w rest
    ≡ cons_token (token_of c w) rest
coded-from c w rest e = rw e

module _ (t : List ℕ) (at from : ℕ) (W : White t at from) where
  pub at-end : length t ≤ from → TokenAt t at 0 from from
  at-end h = record {
    read = W.same ∙ ap tokens (drop_of_length-le t h) ∙ end-tokens;
    start = W.on;
    on = λ e. absurd (never e);
    onward = omega arith;
    within = W.within;
  }

  module _ (h : from < length t) where
    b : ℕ
    b = get_or t from 0

    pub at-word : in_word (get_or t from 0) ≡ true → (to : ℕ) → Scanned in_word t from to
        → TokenAt t at (word_code (between t from to)) from to
    unfolding b
    at-word e to S =
        let s = drop (from + 1) t in
        let k : drop from t ≡ b ∷ s = here t from h in
        let w : List ℕ = take_while in_word s in
        let f : between t from to ≡ b ∷ w = scan-front in_word t from to S ∙ ap (take_while in_word) k ∙ rw e in
        let r : drop to t ≡ drop_while in_word s = S.left ∙ ap (drop_while in_word) k ∙ rw e in
        let a : T (every in_word (b ∷ w)) = pair (in_word b) (every in_word w) (true-T (in_word b) e)
        (all-front in_word s) in
        let whole : tokens (drop at t) ≡ cons_token (token (b ∷ w)) (tokens (drop_while in_word s))
        = W.same ∙ ap tokens (k ∙ ap (λ (x : List ℕ). b ∷ x) (sym (front-back in_word s)))
        ∙ word-tokens b w (drop_while in_word s) a (following-front in_word s) in
        record {
          read = whole ∙ ap (λ (x : Option Token). cons_token x (tokens (drop_while in_word s))) (word-coded (b ∷ w) a)
              ∙ sym (coded-from (word_code (b ∷ w)) (b ∷ w) (tokens (drop_while in_word s)) (word_some (b ∷ w)))
              ∙ (λ i. tokens_from (word_code (sym f i)) (sym f i) (tokens (sym r i)));
          start = W.on;
          on = λ z. some_bytes t from to b w f;
          onward = S.on;
          within = S.within;
        }

    pub at_sign : in_word (get_or t from 0) ≡ false → TokenAt t at (sign_code (get_or t from 0)) from (from + 1)
    unfolding b token_of
    at_sign e =
        let s = drop (from + 1) t in
        let k : tokens (drop at t) ≡ tokens (b ∷ s) = W.same ∙ ap tokens (here t from h) in
        let solid : is_white b s ≡ false = W.solid h in
        let S : Sign b = sign b in
        let w = between t from (from + 1) in
        let read : tokens (b ∷ s) ≡ cons_token (token_of (sign_code b) w) (tokens s) = on_bool (is_sign b)
        (λ g. sign-tokens b s e g ∙ ap (λ (x : Option Token). cons_token x (tokens s)) (S.read w g))
        (λ g. other-tokens b s e g solid ∙ ap (λ (x : ℕ). cons_token (token_of x w) (tokens s)) (sym (S.other g))) in
        record {
          read = k ∙ read ∙ sym (coded-from (sign_code b) w (tokens s) S.some);
          start = W.on;
          on = λ z. omega arith;
          onward = omega arith;
          within = omega (arith, h);
        }

-- a word has bytes
pub word_on : (t : List ℕ) (at from : ℕ) → White t at from → from < length t → in_word (get_or t from 0) ≡ true
    → (to : ℕ) → Scanned in_word t from to → from < to
word_on t at from W h e to S = (at-word t at from W h e to S).on (word_some (between t from to))
