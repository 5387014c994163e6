-- CR LF line ends: a text and the same text with its CR LFs made LF have the same lines.
use Prim.Native.Nat.{ℕ}
use mathlib.Core.Path.{◌≡◌, refl, sym, ap, ◌∙◌, subst}
use mathlib.Core.Bool.{Bool, true, false, cond, ◌&&◌, ◌||◌, or-false}
use mathlib.Core.List.{List, [], ◌∷◌, map}
use lib.Dec.{T, eqb}
use borrow.Author.Tests.{eqb-true}
use Rattle.netlist.specs.Lists.{every}
use Rattle.netlist.specs.Text.{space, lf, cr, at_lf, lf_ends, is_line_end, is_space, onto, split, filled, words}
use Rattle.netlist.specs.Text.{word_lines}
use Rattle.netlist.specs.Read.{byte_allowed, bytes_allowed}
use Rattle.netlist.proofs.Tests.{clash, All, empty, each, on_bool, is_true, true-T, both}
use Rattle.netlist.proofs.Words.{Lacks}

-- ---- texts without CR

-- no byte is CR
abbrev pub NoCR : List ℕ → Type 0
NoCR t = Lacks (λ x. eqb x cr) t

pub lf_ends-none : {t : List ℕ} → NoCR t → lf_ends t ≡ t
lf_ends-none empty = refl
lf_ends-none (each {x = x} p ps) = rw p (ap (λ (l : List ℕ). x ∷ l) (lf_ends-none ps))

-- ---- question 3

-- byte by byte: a digit, a capital letter, a space, LF, or a CR directly before LF
pub allowed-step : (x : ℕ) (xs : List ℕ) → bytes_allowed (x ∷ xs)
    ≡ ((byte_allowed x || (eqb x cr && at_lf xs)) && bytes_allowed xs)
allowed-step x xs = go (eqb x cr) (at_lf xs) refl
  where
    go : (a b : Bool) → eqb x cr ≡ a
        → every byte_allowed (cond (a && b) (lf_ends xs) (x ∷ lf_ends xs))
        ≡ ((byte_allowed x || (a && b)) && bytes_allowed xs)
    go true true e = sym (ap (λ (y : ℕ). (byte_allowed y || true) && bytes_allowed xs) (eqb-true x cr e))
    go true false e = rw (or-false (byte_allowed x))
    go false b e = rw (or-false (byte_allowed x))

allowed-no-cr : (b : ℕ) → byte_allowed b ≡ true → eqb b cr ≡ false
allowed-no-cr b h = on_bool (eqb b cr) (λ e. e ∙ sym h ∙ ap byte_allowed (eqb-true b cr e)) (λ e. e)

every-no-cr : (t : List ℕ) → T (every byte_allowed t) → NoCR t
every-no-cr [] h = empty
every-no-cr (b ∷ t) h =
    let k = both (byte_allowed b) (every byte_allowed t) h in each (allowed-no-cr b (is_true (byte_allowed b) k.0))
    (every-no-cr t k.1)

-- in a text that passes each CR stands before LF
pub allowed-ends : (t : List ℕ) → T (bytes_allowed t) → NoCR (lf_ends t)
allowed-ends t h = every-no-cr (lf_ends t) h

-- a text of bytes that pass by themselves passes
pub plain-allowed : (t : List ℕ) → every byte_allowed t ≡ true → bytes_allowed t ≡ true
plain-allowed t e = ap (every byte_allowed) (lf_ends-none (every-no-cr t (true-T (every byte_allowed t) e))) ∙ e

-- ---- lines and words

-- the first part, and the parts after it
first : List (List ℕ) → List ℕ
first [] = []
first (p ∷ ps) = p

following : List (List ℕ) → List (List ℕ)
following [] = []
following (p ∷ ps) = ps

onto-first : (x : ℕ) (ps : List (List ℕ)) → onto x ps ≡ (x ∷ first ps) ∷ following ps
unfolding first following
onto-first x [] = refl
onto-first x (p ∷ ps) = refl

-- two lines whose words are the same, also with a byte put in front of both
record SameWords (p q : List ℕ) : Type 0 where
  start : first (split is_space p) ≡ first (split is_space q)
  more : filled (following (split is_space p)) ≡ filled (following (split is_space q))

filled-first : (ps : List (List ℕ)) → filled ps ≡ filled (first ps ∷ following ps)
unfolding first following
filled-first [] = refl
filled-first (p ∷ ps) = refl

filled-same : {A : Type 0} (p : List A) (ps qs : List (List A)) → filled ps ≡ filled qs → filled (p ∷ ps)
    ≡ filled (p ∷ qs)
filled-same [] ps qs e = e
filled-same {A} (x ∷ p) ps qs e = ap (λ (r : List (List A)). (x ∷ p) ∷ r) e

same-words : {p q : List ℕ} → SameWords p q → words p ≡ words q
unfolding words
same-words {p} {q} s =
    filled-first (split is_space p) ∙ ap (λ (f : List ℕ). filled (f ∷ following (split is_space p))) s.start
    ∙ filled-same (first (split is_space q)) (following (split is_space p)) (following (split is_space q)) s.more
    ∙ sym (filled-first (split is_space q))

same-on : (x : ℕ) {p q : List ℕ} → SameWords p q → SameWords (x ∷ p) (x ∷ q)
unfolding first following words
same-on x {p} {q} s = go (is_space x) refl
  where
    go : (b : Bool) → is_space x ≡ b → SameWords (x ∷ p) (x ∷ q)
    go true e = record { start = rw e; more = rw e (same-words s) }
    go false e = record {
      start = rw e (rw (onto-first x (split is_space p), onto-first x (split is_space q))
          (ap (λ (f : List ℕ). x ∷ f) s.start));
      more = rw e (rw (onto-first x (split is_space p), onto-first x (split is_space q)) s.more);
    }

-- two texts whose lines are the same, also with a byte put in front of both
record SameLines (s t : List ℕ) : Type 0 where
  start : SameWords (first (split is_line_end s)) (first (split is_line_end t))
  more : filled (map words (following (split is_line_end s))) ≡ filled (map words (following (split is_line_end t)))

lines-first : (s : List ℕ) → word_lines s ≡ filled (words (first (split is_line_end s)) ∷ map words
    (following (split is_line_end s)))
unfolding word_lines words first following
lines-first s = go (split is_line_end s)
  where
    go : (ls : List (List ℕ)) → filled (map words ls) ≡ filled (words (first ls) ∷ map words (following ls))
    go [] = refl
    go (l ∷ ls) = refl

same_lines : {s t : List ℕ} → SameLines s t → word_lines s ≡ word_lines t
same_lines {s} {t} k =
    lines-first s ∙ ap (λ (l : List (List ℕ)). filled (l ∷ map words (following (split is_line_end s))))
    (same-words k.start)
    ∙ filled-same (words (first (split is_line_end t))) (map words (following (split is_line_end s)))
    (map words (following (split is_line_end t))) k.more ∙ sym (lines-first t)

same_byte : (x : ℕ) {s t : List ℕ} → SameLines s t → SameLines (x ∷ s) (x ∷ t)
unfolding first following word_lines
same_byte x {s} {t} k = go (is_line_end x) refl
  where
    go : (b : Bool) → is_line_end x ≡ b → SameLines (x ∷ s) (x ∷ t)
    go true e = record { start = rw e (record { start = refl; more = refl }); more = rw e (same_lines k) }
    go false e =
        record {
          start = rw e (rw (onto-first x (split is_line_end s), onto-first x (split is_line_end t))
              (same-on x k.start));
          more = rw e (rw (onto-first x (split is_line_end s), onto-first x (split is_line_end t)) k.more);
        }

-- a CR before LF
same-cr : (ys : List ℕ) → SameLines (lf_ends (lf ∷ ys)) (lf ∷ ys) → SameLines (lf_ends (lf ∷ ys)) (cr ∷ (lf ∷ ys))
unfolding first following
same-cr ys k = record { start = record { start = refl; more = refl }; more = k.more }

same-crlf : (x : ℕ) (xs : List ℕ) → eqb x cr ≡ true → at_lf xs ≡ true → SameLines (lf_ends xs) xs
    → SameLines (lf_ends xs) (x ∷ xs)
same-crlf x [] p q k = clash (cc)
same-crlf x (y ∷ ys) p q k =
    subst (λ (a : ℕ). SameLines (lf_ends (y ∷ ys)) (a ∷ (y ∷ ys))) (sym (eqb-true x cr p))
    (subst (λ (b : ℕ). SameLines (lf_ends (b ∷ ys)) (b ∷ ys) → SameLines (lf_ends (b ∷ ys)) (cr ∷ (b ∷ ys)))
    (sym (eqb-true y lf q)) (same-cr ys) k)

same_ends : (t : List ℕ) → SameLines (lf_ends t) t
unfolding first following
same_ends [] = record { start = record { start = refl; more = refl }; more = refl }
same_ends (x ∷ xs) = go (eqb x cr) (at_lf xs) refl refl (same_ends xs)
  where
    go : (a b : Bool) → eqb x cr ≡ a → at_lf xs ≡ b → SameLines (lf_ends xs) xs
        → SameLines (cond (a && b) (lf_ends xs) (x ∷ lf_ends xs)) (x ∷ xs)
    go true true p q k = same-crlf x xs p q k
    go true false p q k = same_byte x k
    go false b p q k = same_byte x k

-- CR LF ends a line as LF does
pub ends-alike : (t : List ℕ) → word_lines (lf_ends t) ≡ word_lines t
ends-alike t = same_lines (same_ends t)

-- ---- words parted by spaces alone

abbrev pub space_words : List ℕ → List (List ℕ)
space_words l = filled (split (λ x. eqb x space) l)

split-spaces : {l : List ℕ} → NoCR l → split is_space l ≡ split (λ x. eqb x space) l
split-spaces empty = refl
split-spaces (each {x = x} p ps) = rw (p, or-false (eqb x space), split-spaces ps)

pub space-words : {l : List ℕ} → NoCR l → words l ≡ space_words l
unfolding words
space-words h = ap filled (split-spaces h)

all-onto : {P : ℕ → Type 0} (x : ℕ) {ps : List (List ℕ)} → P x → All (All P) ps → All (All P) (onto x ps)
all-onto x p empty = each (each p empty) empty
all-onto x p (each q qs) = each (each p q) qs

all-parts : {P : ℕ → Type 0} (p : ℕ → Bool) {s : List ℕ} → All P s → All (All P) (split p s)
all-parts p empty = each empty empty
all-parts {P} p (each {x = x} {xs = xs} q qs) = go (p x) (all-parts p qs)
  where
    go : (b : Bool) → All (All P) (split p xs) → All (All P) (cond b ([] ∷ split p xs) (onto x (split p xs)))
    go true h = each empty h
    go false h = all-onto x q h

space-lines : {ls : List (List ℕ)} → All NoCR ls → map words ls ≡ map space_words ls
space-lines empty = refl
space-lines (each p ps) = rw (space-words p, space-lines ps)

-- the lines and words, parted by LF and by spaces alone, of a text that passes question 3, once its CR LFs are made LF
pub lines-literal : (t : List ℕ) → T (bytes_allowed t) → word_lines t
    ≡ filled (map space_words (split is_line_end (lf_ends t)))
unfolding word_lines
lines-literal t h = sym (ends-alike t) ∙ ap filled (space-lines (all-parts is_line_end (allowed-ends t h)))
