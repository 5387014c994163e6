-- One line end at the end of some bytes comes off.
use Rattle.std.specs.Prelude.{Option, Some, None}
use Rattle.std.specs.Option.{MatchOption, unwrap_or}
use denote.Ref.{Bor}
use mathlib.Core.Logic.{◌≢◌}
use mathlib.Core.Path.{◌≡◌, refl, sym, ap, ◌∙◌}
use mathlib.Core.Bool.{Bool, true, false, cond, and-false}
use mathlib.Core.List.{List, [], ◌∷◌, ◌++◌}
use Prim.Native.Nat.{ℕ, suc, ◌≤◌}
use native.Mathlib.Omega.{arith}
use lib.Dec.{eqb}
use lib.ListN.{length, take}
use borrow.Author.Tests.{eqb-true}
use Rattle.netlist.proofs.Tests.{on_bool}
use Rattle.netlist.specs.Text.{lf, cr, is_end, without_end}

-- three bytes or more are no end
peel : (x y z : ℕ) (s : List ℕ) → without_end (x ∷ (y ∷ (z ∷ s))) ≡ x ∷ without_end (y ∷ (z ∷ s))
peel x y z s = ap (λ (b : Bool). cond b [] (x ∷ without_end (y ∷ (z ∷ s)))) no_end
  where
    no_end : is_end (x ∷ (y ∷ (z ∷ s))) ≡ false
    no_end = rw (and-false (eqb x lf), and-false (eqb y lf), and-false (eqb x cr))

-- there is no LF
pub end_none : (s : List ℕ) → ((front : List ℕ) → s ≡ front ++ (lf ∷ []) → ⊥) → without_end s ≡ s
end_none [] h = refl
end_none (x ∷ []) h = on_bool (eqb x lf) (λ e. absurd (h [] (ap (λ b. b ∷ []) (eqb-true x lf e))))
    (λ e. rw (e, and-false (eqb x cr)))
end_none (x ∷ (y ∷ [])) h =
    on_bool (eqb y lf) (λ e. absurd (h (x ∷ []) (ap (λ b. x ∷ b ∷ []) (eqb-true y lf e))))
    (λ e. rw (e, and-false (eqb x lf), and-false (eqb x cr), and-false (eqb y cr)))
end_none (x ∷ (y ∷ (z ∷ s))) h = peel x y z s ∙ ap (λ l. x ∷ l)
    (end_none (y ∷ (z ∷ s)) (λ front e. h (x ∷ front) (ap (λ l. x ∷ l) e)))

-- LF after another byte than CR
end-lf : (s : List ℕ) → ((front : List ℕ) → s ≡ front ++ (cr ∷ []) → ⊥) → without_end (s ++ (lf ∷ [])) ≡ s
end-lf [] h = refl
end-lf (x ∷ []) h =
    on_bool (eqb x cr) (λ e. absurd (h [] (ap (λ b. b ∷ []) (eqb-true x cr e)))) (λ e. rw (e, and-false (eqb x lf)))
end-lf (x ∷ (y ∷ [])) h = peel x y lf []
    ∙ ap (λ l. x ∷ l) (end-lf (y ∷ []) (λ front e. h (x ∷ front) (ap (λ l. x ∷ l) e)))
end-lf (x ∷ (y ∷ (z ∷ s))) h =
    peel x y z (s ++ (lf ∷ [])) ∙ ap (λ l. x ∷ l) (end-lf (y ∷ (z ∷ s)) (λ front e. h (x ∷ front) (ap (λ l. x ∷ l) e)))

-- LF after CR
end-crlf : (s : List ℕ) → without_end ((s ++ (cr ∷ [])) ++ (lf ∷ [])) ≡ s
end-crlf [] = refl
end-crlf (x ∷ []) = peel x cr lf [] ∙ ap (λ l. x ∷ l) (end-crlf [])
end-crlf (x ∷ (y ∷ [])) = peel x y cr (lf ∷ []) ∙ ap (λ l. x ∷ l) (end-crlf (y ∷ []))
end-crlf (x ∷ (y ∷ (z ∷ s))) = peel x y z ((s ++ (cr ∷ [])) ++ (lf ∷ [])) ∙ ap (λ l. x ∷ l) (end-crlf (y ∷ (z ∷ s)))

-- LF, and CR before it where one stands there
pub end_either : (s : List ℕ) (line : Bor (List ℕ)) (r : Option (Bor (List ℕ))) → s ≡ line.now ++ (lf ∷ [])
    → MatchOption r ((front : List ℕ) → line.now ≢ front ++ (cr ∷ [])) (λ x. line.now ≡ x.now ++ (cr ∷ []))
    → (unwrap_or r line).now ≡ without_end s
end_either s line (Some x) e m = sym (ap without_end (e ∙ ap (λ l. l ++ (lf ∷ [])) m) ∙ end-crlf x.now)
end_either s line None e m = sym (ap without_end e ∙ end-lf line.now m)

-- what comes off stands at the end
pub end_front : (s : List ℕ) → take (length (without_end s)) s ≡ without_end s
end_front [] = refl
end_front (x ∷ xs) = go (is_end (x ∷ xs)) (end_front xs)
  where
    go : (b : Bool) → take (length (without_end xs)) xs ≡ without_end xs
        → take (length (cond b [] (x ∷ without_end xs))) (x ∷ xs) ≡ cond b [] (x ∷ without_end xs)
    go true e = refl
    go false e = ap (λ l. x ∷ l) e

pub end_within : (s : List ℕ) → length (without_end s) ≤ length s
end_within [] = omega arith
end_within (x ∷ xs) = go (is_end (x ∷ xs)) (end_within xs)
  where
    go : (b : Bool) → length (without_end xs) ≤ length xs → length (cond b [] (x ∷ without_end xs)) ≤ suc (length xs)
    go true h = omega arith
    go false h = omega arith
