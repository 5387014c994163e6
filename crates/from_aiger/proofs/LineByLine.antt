-- Lines of a form taken one after another, as a loop takes them.
use Prim.Native.Nat.{ℕ, zero, suc, ◌+◌, ◌<◌}
use mathlib.Core.Path.{◌≡◌, refl, ap, ◌∙◌}
use mathlib.Core.Bool.{Bool, true, ◌&&◌}
use mathlib.Core.List.{List, [], ◌∷◌, ◌++◌}
use mathlib.Core.Option.{Option, some}
use native.Mathlib.Omega.{arith}
use lib.ListN.{length, drop, set}
use Rattle.netlist.proofs.Tests.{both_true}
use Rattle.netlist.proofs.Questions.{none-some, some_same}
use Rattle.aiger.specs.Lines.{formed}
use Rattle.aiger.specs.Rules.{fresh, giving, fresh_all}
use Rattle.aiger.specs.Outputs.{enter}
use Rattle.aiger.specs.Made.{up_from}
use Rattle.from_aiger.specs.LineAnswers.{at_front}
use Rattle.aiger.proofs.Forms.{if_some-some}

module _ {A : Type 0} (f : List (List ℕ) → Option A) where
  formed-cons : (i : ℕ) (l : List (List ℕ)) (ls : List (List (List ℕ))) (a : A) (seen : List A) → f l ≡ some a
      → formed f i ls ≡ some seen
      → formed f (suc i) (l ∷ ls) ≡ some (a ∷ seen)
  formed-cons i l ls a seen p q = rw (p, q) refl

  -- one line more
  pub formed-snoc : (i : ℕ) (ls : List (List (List ℕ))) (seen : List A) (a : A) → formed f i ls ≡ some seen
      → at_front f (drop i ls) ≡ some a
      → formed f (i + 1) ls ≡ some (seen ++ (a ∷ []))
  formed-snoc zero [] seen a e h = absurd (none-some a h)
  formed-snoc zero (l ∷ ls) seen a e h = rw (h, ← some_same [] seen e) refl
  formed-snoc (suc i) [] seen a e h = absurd (none-some seen e)
  formed-snoc (suc i) (l ∷ ls) seen a e h =
      let p = if_some-some (f l) _ seen e in
      let q = if_some-some (formed f i ls) _ seen p.2 in
      let s : p.0 ∷ q.0 ≡ seen = some_same (p.0 ∷ q.0) seen q.2 in
      let z : suc i + 1 ≡ suc (i + 1) = omega arith in
      let r : formed f (i + 1) ls ≡ some (q.0 ++ (a ∷ [])) = formed-snoc i ls q.0 a q.1 h in
      ap (λ (k : ℕ). formed f k (l ∷ ls)) z ∙ formed-cons (i + 1) l ls p.0 (q.0 ++ (a ∷ [])) p.1 r
      ∙ ap (λ (ys : List A). some (ys ++ (a ∷ []))) s

  -- the line after the first i
  pub record Split (i : ℕ) (ls : List (List (List ℕ))) (xs : List A) : Type 0 where
    pub front : List A
    pub here : A
    pub rest : List A
    pub seen : formed f i ls ≡ some front
    pub line : at_front f (drop i ls) ≡ some here
    pub all : front ++ (here ∷ rest) ≡ xs

  pub formed-split : (i k : ℕ) (ls : List (List (List ℕ))) (xs : List A) → i < k → formed f k ls ≡ some xs
      → Split i ls xs
  formed-split i zero ls xs h e = absurd (omega arith)
  formed-split i (suc k) [] xs h e = absurd (none-some xs e)
  formed-split zero (suc k) (l ∷ ls) xs h e =
      let p = if_some-some (f l) _ xs e in
      let q = if_some-some (formed f k ls) _ xs p.2 in
      record { front = []; here = p.0; rest = q.0; seen = refl; line = p.1; all = some_same (p.0 ∷ q.0) xs q.2 }
  formed-split (suc i) (suc k) (l ∷ ls) xs h e =
      let p = if_some-some (f l) _ xs e in
      let q = if_some-some (formed f k ls) _ xs p.2 in
      let S : Split i ls q.0 = formed-split i k ls q.0 (omega arith) q.1 in
      record {
        front = p.0 ∷ S.front;
        here = S.here;
        rest = S.rest;
        seen = formed-cons i l ls p.0 S.front p.1 S.seen;
        line = S.line;
        all = ap (λ (ys : List A). p.0 ∷ ys) S.all ∙ some_same (p.0 ∷ q.0) xs q.2;
      }

-- ---- variables given one after another

pub giving-snoc : (given vs : List ℕ) (v : ℕ) → giving given (vs ++ (v ∷ [])) ≡ v ∷ giving given vs
giving-snoc given [] v = refl
giving-snoc given (u ∷ vs) v = giving-snoc (u ∷ given) vs v

true-both : (a b : Bool) → a ≡ true → b ≡ true → (a && b) ≡ true
true-both a b p q = rw (p, q) refl

pub fresh-snoc : (M : ℕ) (given vs : List ℕ) (v : ℕ) → fresh_all M given vs ≡ true → fresh M (giving given vs) v ≡ true
    → fresh_all M given (vs ++ (v ∷ [])) ≡ true
fresh-snoc M given [] v e h = true-both (fresh M given v) true h refl
fresh-snoc M given (u ∷ vs) v e h =
    let p = both_true (fresh M given u) (fresh_all M (u ∷ given) vs) e in
    true-both (fresh M given u) _ p.0 (fresh-snoc M (u ∷ given) vs v p.1 h)

pub fresh_at : (M : ℕ) (given vs : List ℕ) (v : ℕ) (rest : List ℕ) → fresh_all M given (vs ++ (v ∷ rest)) ≡ true
    → fresh M (giving given vs) v ≡ true
fresh_at M given [] v rest e = (both_true (fresh M given v) (fresh_all M (v ∷ given) rest) e).0
fresh_at M given (u ∷ vs) v rest e = fresh_at M (u ∷ given) vs v rest (both_true (fresh M given u) _ e).1

pub enter-snoc : (table vs : List ℕ) (v k : ℕ) → enter table (vs ++ (v ∷ [])) (up_from k (length vs + 1))
    ≡ set (enter table vs (up_from k (length vs))) v (k + length vs)
enter-snoc table [] v k = let z : k + 0 ≡ k = omega arith in rw z refl
enter-snoc table (u ∷ vs) v k =
    let z : suc (length vs) + 1 ≡ suc (length vs + 1) = omega arith in
    let y : k + suc (length vs) ≡ k + 1 + length vs = omega arith in
    rw (z, y) (enter-snoc (set table u k) vs v (k + 1))
