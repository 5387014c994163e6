-- Marks that a loop stores, one wire a turn, and those of several blocks.
use mathlib.Core.Path.{◌≡◌, refl, sym, ◌∙◌, subst}
use mathlib.Core.Bool.{Bool, true, false}
use mathlib.Core.Logic.{inl, inr, ⊎_elim}
use mathlib.Core.List.{List}
use Prim.Native.Nat.{ℕ, zero, suc, ◌+◌, ◌-◌, ◌*◌, ◌≤◌, ◌<◌}
use native.Mathlib.Omega.{arith}
use borrow.Author.Count.{below_more}
use borrow.Author.Tests.{ltb-true, ltb-false}
use lib.Dec.{ltb}
use lib.ListN.{length, get_or, set, replicate, length-set}
use lib.Seq.{get_or-set_same, get_or-set_other}
use Rattle.netlist.specs.Table.{Tables}
use Rattle.netlist.proofs.Tests.{on_bool}
use Rattle.evaluate.specs.Bare.{bare}
use Rattle.leak_search.specs.Base.{count_in}
use Rattle.leak_search.specs.Block.{Ready}
use Rattle.leak_search.specs.Difference.{from}
use Rattle.causes.specs.Marked.{Same, Joined, MarkOf}

-- the marks of the wires below w are joined, and the others as they were
pub record Marking (f g : ℕ → ℕ → ℕ) (ms₀ ms : List ℕ) (w : ℕ) : Type 0 where
  pub long : length ms ≡ length ms₀
  pub done : (v : ℕ) → v < w → Joined (get_or ms₀ v 0) (get_or ms v 0) (f v) (g v)
  pub rest : (v : ℕ) → w ≤ v → get_or ms v 0 ≡ get_or ms₀ v 0

pub marking-none : (f g : ℕ → ℕ → ℕ) (ms : List ℕ) → Marking f g ms ms 0
marking-none f g ms = record { long = refl; done = λ v l. absurd (omega arith); rest = λ v l. refl }

pub marking-more : {f g : ℕ → ℕ → ℕ} {ms₀ ms : List ℕ} {w : ℕ} (m : ℕ) → Marking f g ms₀ ms w → w < length ms
    → Joined (get_or ms w 0) m (f w) (g w) → Marking f g ms₀ (set ms w m) (w + 1)
marking-more {f} {g} {ms₀} {ms} {w} m r l j = record {
  long = length-set ms w m ∙ r.long;
  done = below_more (λ v. Joined (get_or ms₀ v 0) (get_or (set ms w m) v 0) (f v) (g v)) w
      (λ v h. subst (λ (x : ℕ). Joined (get_or ms₀ v 0) x (f v) (g v)) (sym (get_or-set_other ms w v m 0 (omega arith)))
      (r.done v h))
      (subst (λ (x : ℕ). Joined (get_or ms₀ w 0) x (f w) (g w)) (sym (get_or-set_same ms w m 0 l))
      (subst (λ (x : ℕ). Joined x m (f w) (g w)) (r.rest w (omega arith)) j));
  rest = λ v h. get_or-set_other ms w v m 0 (omega arith) ∙ r.rest v (omega arith);
}

-- by equal counts
pub joined-same : {m m' : ℕ} {f g f' g' : ℕ → ℕ} → ((s : ℕ) → s < 16 → f s ≡ f' s) → ((s : ℕ) → s < 16 → g s ≡ g' s)
    → Joined m m' f g → Joined m m' f' g'
joined-same p q j =
    ⊎_elim (λ a. inl (a.0, λ s l. sym (p s l) ∙ a.1 s l ∙ q s l))
    (λ b. inr (b.0, λ h. b.1 (λ s l. p s l ∙ h s l ∙ sym (q s l)))) j

-- a block more
same-more : {f g : ℕ → ℕ} (S : ℕ) → Same f g S → Same (λ s. f (S + s)) (λ s. g (S + s)) 16 → Same f g (S + 16)
same-more {f} {g} S old new s l =
    on_bool (ltb s S) (λ t. old s (ltb-true s S t))
    (λ t.
    let k = ltb-false s S t in
    let e : S + (s - S) ≡ s = omega arith in
    subst (λ (n : ℕ). f n ≡ g n) e (new (s - S) (omega arith)))

pub mark-more : {m m' : ℕ} {f g : ℕ → ℕ} (S : ℕ) → MarkOf m f g S → Joined m m' (λ s. f (S + s)) (λ s. g (S + s))
    → MarkOf m' f g (S + 16)
mark-more {m} {m'} {f} {g} S old j =
    ⊎_elim
    (λ a. ⊎_elim (λ z. inl (a.0 ∙ z.0, same-more S z.1 a.1))
    (λ o. inr (a.0 ∙ o.0, λ h. o.1 (λ s l. h s (omega arith)))) old)
    (λ b. inr (b.0, λ h. b.1 (λ s l. h (S + s) (omega arith)))) j

-- the blocks before this one are searched
pub record Marked (t : Tables) (n W : ℕ) (ps : List ℕ) (publics : Bool) (blocks : ℕ) (words base marks : List ℕ)
    (block : ℕ) : Type 0 where
  pub passed : block ≤ blocks
  pub long-words : length words ≡ W
  pub long-base : length base ≡ W
  pub long-marks : length marks ≡ W
  pub ready : Ready publics (bare t n W) ps base block
  pub each : (w : ℕ) → w < W
      → MarkOf (get_or marks w 0) (count_in (bare t n W) false ps w) (count_in (bare t n W) true ps w) (block * 16)

pub marked-more : {t : Tables} {n W : ℕ} {ps : List ℕ} {publics : Bool} {blocks : ℕ} {words base marks : List ℕ}
    {block : ℕ} → Marked t n W ps publics blocks words base marks block → block < blocks
    → (us vs ms : List ℕ) → length us ≡ length words → length vs ≡ length base → length ms ≡ length marks
    → ((w : ℕ) → w < length words → Joined (get_or marks w 0) (get_or ms w 0)
    (from (block * 16) (count_in (bare t n (length words)) false ps) w)
    (from (block * 16) (count_in (bare t n (length words)) true ps) w))
    → Ready publics (bare t n (length words)) ps vs (block + 1)
    → Marked t n W ps publics blocks us vs ms (block + 1)
marked-more {t} {n} {W} {ps} {publics} {marks = marks} {block = block} r l us vs ms e d k turned ready =
    let q : block * 16 + 16 ≡ (block + 1) * 16 = omega arith in
    let turned' = subst (λ (W : ℕ). (w : ℕ) → w < W → Joined (get_or marks w 0) (get_or ms w 0)
    (from (block * 16) (count_in (bare t n W) false ps) w) (from (block * 16) (count_in (bare t n W) true ps) w))
    r.long-words turned in
    record {
      passed = omega arith;
      long-words = e ∙ r.long-words;
      long-base = d ∙ r.long-base;
      long-marks = k ∙ r.long-marks;
      ready = subst (λ (k : ℕ). Ready publics (bare t n k) ps vs (block + 1)) r.long-words ready;
      each = λ w h. subst
          (λ (S : ℕ). MarkOf (get_or ms w 0) (count_in (bare t n W) false ps w) (count_in (bare t n W) true ps w) S) q
          (mark-more (block * 16) (r.each w h) (turned' w h));
    }

-- a table of zeros
pub zeros-at : (n i : ℕ) → ◌≡◌ {A = ℕ} (get_or (replicate n 0) i 0) 0
zeros-at zero i = refl
zeros-at (suc n) zero = refl
zeros-at (suc n) (suc i) = zeros-at n i
