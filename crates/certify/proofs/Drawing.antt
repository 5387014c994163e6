-- The words of a round are those that the generator's numbers give.
use mathlib.Core.Path.{◌≡◌, refl, sym, ap, ◌∙◌, subst}
use mathlib.Core.Bool.{Bool, false}
use mathlib.Core.List.{List, [], ◌∷◌, ◌++◌}
use Prim.Native.Nat.{ℕ, zero, suc, ◌+◌, ◌-◌, ◌^◌, ◌<◌, ◌≤◌}
use native.Mathlib.Numerals.{add-one}
use native.Mathlib.Omega.{arith}
use lib.Dec.{eqb, ltb}
use lib.ListN.{length, get_or, take, set, length-set, length-append, get_or-append}
use lib.Seq.{length-take-le, get_or-take, ext_get_or, get_or-set_same, get_or-set_other, get_or-append-add}
use borrow.Author.Tests.{eqb-true, eqb-false, ltb-true, ltb-false}
use Rattle.netlist.specs.Netlist.{Netlist}
use Rattle.netlist.specs.Eval.{bits_at, wire_bits}
use Rattle.netlist.specs.Table.{Tables, Holds}
use Rattle.netlist.proofs.Tests.{on_bool}
use Rattle.evaluate.specs.Lane.{lanes, word, up_to}
use Rattle.evaluate.specs.Bare.{bare}
use Rattle.evaluate.proofs.Runs.{bare-wires}
use Rattle.evaluate.proofs.Steps.{get_d-lanes}
use Rattle.evaluate.proofs.Words.{word-known}
use Rattle.certify.specs.Step.{mask_word}
use Rattle.std.specs.Prelude.{Option, Some, None}
use Rattle.leak_search.specs.declared.difference.Leak.{Leak}
use Rattle.certify.specs.Search.{drawn, input_word, input_words, round_words, Looked, Searched, over, hit, miss}

long-up_to : (n : ℕ) (f : ℕ → ℕ) → length (up_to n f) ≡ n
long-up_to zero f = refl
long-up_to (suc n) f = ap suc (long-up_to n (λ i. f (suc i)))

at-up_to : (n : ℕ) (f : ℕ → ℕ) (i : ℕ) → i < n → get_or (up_to n f) i 0 ≡ f i
at-up_to zero f i h = absurd (omega arith)
at-up_to (suc n) f zero h = refl
at-up_to (suc n) f (suc i) h = at-up_to n (λ i. f (suc i)) i (omega arith)

-- the words of the first i inputs, and the generator's number
pub record Drawing (codes : List ℕ) (seed : ℕ) (words : List ℕ) (noise i : ℕ) : Type 0 where
  pub words_are : (k : ℕ) → k < i → get_or words k 0 ≡ input_word (get_or codes k 0) (drawn (k + 1) seed)
  pub noise_is : noise ≡ drawn i seed

pub drawing-more : {codes : List ℕ} {seed : ℕ} {words : List ℕ} {noise i noise' w : ℕ} → Drawing codes seed words noise
    i → i < length words
    → noise' ≡ drawn 1 noise → w ≡ input_word (get_or codes i 0) noise' → Drawing codes seed (set words i w) noise'
    (i + 1)
drawing-more {codes} {seed} {words} {noise} {i} {noise'} {w} D h e f =
    let n : noise' ≡ drawn (i + 1) seed = e ∙ ap (drawn 1) D.noise_is ∙ ap (λ (k : ℕ). drawn k seed) (sym (add-one i))
    in
    record {
      words_are = λ k m. on_bool (eqb k i)
          (λ q. let z = eqb-true k i q in
          rw z (get_or-set_same words i w 0 h ∙ f ∙ ap (input_word (get_or codes i 0)) n))
          (λ q. let z : k ≡ i → ⊥ = eqb-false k i q in get_or-set_other words i k w 0 z ∙ D.words_are k (omega arith));
      noise_is = n;
    }

module _ (codes : List ℕ) (seed : ℕ) (ws : List ℕ) (room : length codes + 2 ≤ length ws) where
  abbrev n : ℕ
  n = length codes

  abbrev front : List ℕ
  front = up_to n (λ i. input_word (get_or codes i 0) (drawn (i + 1) seed))

  abbrev pair : List ℕ
  pair = mask_word 1 ∷ mask_word 2 ∷ []

  pub words-drawn : ((k : ℕ) → k < n → get_or ws k 0 ≡ input_word (get_or codes k 0) (drawn (k + 1) seed))
      → get_or ws n 0 ≡ mask_word 1
      → get_or ws (n + 1) 0 ≡ mask_word 2 → take (n + 2) ws ≡ input_words codes seed
  words-drawn f p q =
      let l : length front ≡ n = long-up_to n (λ i. input_word (get_or codes i 0) (drawn (i + 1) seed)) in
      let m = length-append front pair in
      let t = length-take-le (n + 2) ws room in
      ext_get_or 0 (take (n + 2) ws) (input_words codes seed) (omega arith)
      (λ i h.
      get_or-take (n + 2) ws i 0 (omega arith)
      ∙ on_bool (ltb i n)
      (λ e. let b = ltb-true i n e in
      f i b ∙ sym (get_or-append front pair 0 i (omega arith)
      ∙ at-up_to n (λ i. input_word (get_or codes i 0) (drawn (i + 1) seed)) i b))
      (λ e. let b = ltb-false i n e in
      on_bool (eqb i n)
      (λ z. let y : i ≡ n = eqb-true i n z in
      let x : i ≡ length front + 0 = omega arith in
      ap (λ (k : ℕ). get_or ws k 0) y ∙ p ∙ sym (ap (λ (k : ℕ). get_or (front ++ pair) k 0) x
      ∙ get_or-append-add front pair 0 0))
      (λ z. let y : i ≡ n → ⊥ = eqb-false i n z in
      let w : i ≡ n + 1 = omega arith in
      let x : i ≡ length front + 1 = omega arith in
      ap (λ (k : ℕ). get_or ws k 0) w ∙ q ∙ sym (ap (λ (k : ℕ). get_or (front ++ pair) k 0) x
      ∙ get_or-append-add front pair 1 0))))

pub words-set : (codes ws : List ℕ) (seed noise a b : ℕ) → Drawing codes seed ws noise (length codes)
    → length codes + 2 ≤ length ws → a ≡ mask_word 1
    → b ≡ mask_word 2 → take (length codes + 2) (set (set ws (length codes) a) (length codes + 1) b)
    ≡ input_words codes seed
words-set codes ws seed noise a b D room ea eb =
    let k = length codes in
    let v = set ws k a in
    let lv : length v ≡ length ws = length-set ws k a in
    let lu : length (set v (k + 1) b) ≡ length v = length-set v (k + 1) b in
    words-drawn codes seed (set v (k + 1) b) (omega arith)
    (λ i h. get_or-set_other v (k + 1) i b 0 (λ e. omega arith) ∙ get_or-set_other ws k i a 0 (λ e. omega arith)
    ∙ D.words_are i h)
    (get_or-set_other v (k + 1) k b 0 (λ e. omega arith) ∙ get_or-set_same ws k a 0 (omega arith) ∙ ea)
    (get_or-set_same v (k + 1) b 0 (omega arith) ∙ eb)

-- after a run
pub round-drawn : {t : Tables} {m W n o : ℕ} {N : Netlist} → Holds t m W n o N → (codes : List ℕ) (seed : ℕ)
    (ws vs : List ℕ) → length vs ≡ W
    → ((i : ℕ) → get_or vs i 0 < 2 ^ 64) → take (length codes + 2) ws ≡ input_words codes seed
    → ((j : ℕ) → j < 64 → lanes j vs ≡ wire_bits (bare t m W) (lanes j (take (length codes + 2) ws))) → vs
    ≡ round_words N codes seed
round-drawn {N = N} H codes seed ws vs long fits e run =
    let f : ℕ → ℕ = λ w. word 64 λ j. bits_at (wire_bits N (lanes j (input_words codes seed))) w in
    let wires = H.wires in
    let l = long-up_to N.wires f in
    ext_get_or 0 vs (up_to N.wires f) (omega arith)
    (λ w h.
    word-known (get_or vs w 0) (λ j. bits_at (wire_bits N (lanes j (input_words codes seed))) w) (fits w)
    (λ j q.
    sym (get_d-lanes j vs w)
    ∙ ap (λ (v : List Bool). get_or v w false)
    (run j q ∙ bare-wires H (lanes j (take (length codes + 2) ws)) ∙ ap (λ (i : List ℕ). wire_bits N (lanes j i)) e))
    ∙ sym (at-up_to N.wires f w (omega arith)))

-- the rounds that are left
module _ {N : Netlist} {codes : List ℕ} (k seed : ℕ) where
  pub search-hit : (ws : List ℕ) (p : Leak ℕ) → k < 64 → ws ≡ round_words N codes seed → Looked ws (Some p)
      → Searched N codes (64 - k) seed (Some p) ws
  search-hit ws p h e L =
      let f : suc (64 - (k + 1)) ≡ 64 - k = omega arith in
      let l : Looked (round_words N codes seed) (Some p) = subst (λ (v : List ℕ). Looked v (Some p)) e L in
      subst (λ (n : ℕ). Searched N codes n seed (Some p) ws) f
      (subst (λ (v : List ℕ). Searched N codes (suc (64 - (k + 1))) seed (Some p) v) (sym e)
      (hit (64 - (k + 1)) seed p l))

  pub search-miss : (ws : List ℕ) (next : ℕ) (found : Option (Leak ℕ)) (vs : List ℕ) → k < 64 → ws
      ≡ round_words N codes seed → Looked ws None
      → next ≡ drawn (length codes) seed → Searched N codes (64 - (k + 1)) next found vs
      → Searched N codes (64 - k) seed found vs
  search-miss ws next found vs h e L n S =
      let f : suc (64 - (k + 1)) ≡ 64 - k = omega arith in
      let l : Looked (round_words N codes seed) None = subst (λ (v : List ℕ). Looked v None) e L in
      subst (λ (m : ℕ). Searched N codes m seed found vs) f
      (miss (64 - (k + 1)) seed found vs l (subst (λ (m : ℕ). Searched N codes (64 - (k + 1)) m found vs) n S))

  pub search-over : (ws : List ℕ) → 64 ≤ k → Searched N codes (64 - k) seed None ws
  search-over ws h = let f : 0 ≡ 64 - k = omega arith in subst (λ (m : ℕ). Searched N codes m seed None ws) f
      (over seed ws)
