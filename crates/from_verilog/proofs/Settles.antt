-- The assignments: the states of names after them, and question 17.
use Prim.Native.Nat.{ℕ, ◌≤◌}
use mathlib.Core.Path.{◌≡◌, refl, sym, ap, ap₂, subst, ◌∙◌}
use mathlib.Core.Bool.{Bool, true, false, cond, not, ◌&&◌, ◌||◌}
use mathlib.Core.List.{List, [], ◌∷◌}
use native.Mathlib.Omega.{arith}
use lib.Dec.{T, eqb, leb}
use lib.ListN.{length}
use borrow.Author.Tests.{eqb-true}
use Rattle.netlist.specs.Lists.{every, same_bytes}
use Rattle.netlist.proofs.Tests.{on_bool, both_true, pair, or_right, is_true, true-T}
use Rattle.verilog.specs.Tokens.{elem}
use Rattle.verilog.specs.Syntax.{Assign}
use Rattle.verilog.specs.Rules.{expr_reads, assigns_good}
use Rattle.verilog.proofs.Listing.{same-equal}
use Rattle.verilog.proofs.Naming.{all-every, GoodAssign, good_assign}
use Rattle.from_verilog.proofs.Firsts.{never}
use Rattle.from_verilog.specs.Wires.{wire_of}
use Rattle.from_verilog.specs.States.{becomes}
use Rattle.from_verilog.specs.Parts.{readable}
use Rattle.from_verilog.specs.Settled.{is_open, settled, Settled, settle, settle_all, unsettled}
use Rattle.from_verilog.proofs.Settling.{spoilt}
use Rattle.from_verilog.proofs.Entries.{every-same, wire-moved, length-becomes}

-- the state of an output after the port list, before and after its assignment
abbrev pub is_out : ℕ → Bool
is_out k = eqb k 4 || eqb k 6

readable-is : (t words st : List ℕ) (n : ℕ) (w : List ℕ) → readable t words st n w ≡ leb 5 (wire_of t words st n w)
unfolding readable
readable-is t words st n w = refl

module _ (t words : List ℕ) (n : ℕ) (targets outs : List (List ℕ)) where
  -- the states where so many names may be read
  pub record Known (known : List (List ℕ)) (st : List ℕ) : Type 0 where
    pub stated : n ≤ length st
    pub reads : (v : List ℕ) → leb 5 (wire_of t words st n v) ≡ elem v known
    pub opens : (v : List ℕ) → is_open (wire_of t words st n v) ≡ (elem v targets && not (elem v known))
    pub is_output : (v : List ℕ) → is_out (wire_of t words st n v) ≡ elem v outs

  module _ {known : List (List ℕ)} {st : List ℕ} (K : Known known st) (w : List ℕ) where
    known_more : (st' : List ℕ) (new : ℕ) → length st' ≡ length st
        → ((v : List ℕ) → wire_of t words st' n v ≡ cond (same_bytes v w) new (wire_of t words st n v))
        → leb 5 new ≡ true → is_open new ≡ false → is_out new ≡ is_out (wire_of t words st n w) → Known (w ∷ known) st'
    known_more st' new l g a b c = record {
      stated = omega (arith, K.stated, l);
      reads = λ v. on_bool (same_bytes v w)
          (λ q. ap (leb 5) (g v ∙ ap (λ (x : Bool). cond x new (wire_of t words st n v)) q) ∙ a
          ∙ sym (ap (λ (x : Bool). x || elem v known) q))
          (λ q. ap (leb 5) (g v ∙ ap (λ (x : Bool). cond x new (wire_of t words st n v)) q) ∙ K.reads v
          ∙ sym (ap (λ (x : Bool). x || elem v known) q));
      opens = λ v. on_bool (same_bytes v w)
          (λ q. ap is_open (g v ∙ ap (λ (x : Bool). cond x new (wire_of t words st n v)) q) ∙ b ∙ sym
          (ap (λ (x : Bool). elem v targets && not (x || elem v known)) q ∙ and-false (elem v targets)))
          (λ q. ap is_open (g v ∙ ap (λ (x : Bool). cond x new (wire_of t words st n v)) q) ∙ K.opens v ∙ sym
          (ap (λ (x : Bool). elem v targets && not (x || elem v known)) q));
      is_output = λ v. on_bool (same_bytes v w)
          (λ q. ap is_out (g v ∙ ap (λ (x : Bool). cond x new (wire_of t words st n v)) q) ∙ c ∙ K.is_output w
          ∙ ap (λ (x : List ℕ). elem x outs) (sym (same-equal v w q)))
          (λ q. ap is_out (g v ∙ ap (λ (x : Bool). cond x new (wire_of t words st n v)) q) ∙ K.is_output v);
    }
      where
        and-false : (x : Bool) → (x && false) ≡ false
        and-false true = refl
        and-false false = refl

    -- a target more
    pub known_on : is_open (wire_of t words st n w) ≡ true → Known (w ∷ known) (settled t words st n w)
    known_on h = on_bool (eqb (wire_of t words st n w) 3)
        (λ e. let q = eqb-true (wire_of t words st n w) 3 e in
        subst (Known (w ∷ known))
        (sym (ap (λ (b : Bool). cond b (becomes t words st n w 3 5) (becomes t words st n w 4 6)) e))
        (known_more (becomes t words st n w 3 5) 5 (length-becomes t words st n w 3 5)
        (wire-moved t words st n w 3 5 K.stated (omega arith) q) refl refl
        (sym (ap is_out q))))
        (λ e. let q = eqb-true (wire_of t words st n w) 4
        (sym (ap (λ (b : Bool). b || eqb (wire_of t words st n w) 4) e) ∙ h) in
        subst (Known (w ∷ known))
        (sym (ap (λ (b : Bool). cond b (becomes t words st n w 3 5) (becomes t words st n w 4 6)) e))
        (known_more (becomes t words st n w 4 6) 6 (length-becomes t words st n w 4 6)
        (wire-moved t words st n w 4 6 K.stated (omega arith) q) refl refl
        (sym (ap is_out q))))

    reads_known_lem : (ws : List (List ℕ)) → every (readable t words st n) ws ≡ every (λ v. elem v known) ws
    reads_known_lem ws = every-same (readable t words st n) (λ v. elem v known) ws (λ v h. readable-is t words st n v
        ∙ K.reads v)

  -- ---- all assignments

  pub record Done (before : List (List ℕ)) (S : Settled) : Type 0 where
    pub good : S.good ≡ true
    pub known : List (List ℕ)
    pub more : (w : List ℕ) → T (elem w before) → T (elem w known)
    pub states : Known known S.states
    pub all : T (every (λ w. elem w known) targets)

  settled_is : (st : List ℕ) (a : Assign) → every (readable t words st n) (expr_reads a.value) ≡ true
      → is_open (wire_of t words st n a.target) ≡ true
      → settle t words n (unsettled st) a ≡ unsettled (settled t words st n a.target)
  settled_is st a r o = λ i. record { good = ap₂ ◌&&◌ r o i; states = settled t words st n a.target }

  pub settle-good : (xs : List Assign) (known : List (List ℕ)) (st : List ℕ) → Known known st
      → T (assigns_good known targets xs) → Done known
      (settle_all t words n (unsettled st) xs)
  settle-good [] known st K h = record { good = refl; known = known; more = λ w t. t; states = K; all = h }
  settle-good (a ∷ xs) known st K h =
      let G : GoodAssign known targets a xs = good_assign known targets a xs h in
      let w = a.target in
      let r : every (readable t words st n) (expr_reads a.value) ≡ true = reads_known_lem K w (expr_reads a.value)
      ∙ is_true
      (every (λ v. elem v known) (expr_reads a.value)) G.reads_known in
      let o : is_open (wire_of t words st n w) ≡ true = K.opens w ∙ ap₂ ◌&&◌ (is_true (elem w targets) G.target)
      (is_true (not (elem w known)) G.new) in
      let D = settle-good xs (w ∷ known) (settled t words st n w) (known_on K w o) G.after in
      subst (Done known) (sym (ap (λ (S : Settled). settle_all t words n S xs) (settled_is st a r o)))
      (record {
        good = D.good;
        known = D.known;
        more = λ v q. D.more v (or_right (same_bytes v w) (elem v known) q);
        states = D.states;
        all = D.all;
      })

  pub good-settle : (xs : List Assign) (known : List (List ℕ)) (st : List ℕ) → Known known st
      → (settle_all t words n (unsettled st) xs).good ≡ true
      → ((w : List ℕ) → T (elem w targets) → leb 5 (wire_of t words (settle_all t words n (unsettled st) xs).states n w)
      ≡ true) → T (assigns_good known targets xs)
  good-settle [] known st K h f = all-every (λ w. elem w known) targets
      (λ w q. true-T (elem w known) (sym (K.reads w) ∙ f w q))
  good-settle (a ∷ xs) known st K h f =
      let w = a.target in
      let g : (settle t words n (unsettled st) a).good ≡ true = on_bool (settle t words n (unsettled st) a).good
      (λ e. e)
      (λ e. absurd (never (sym h ∙ spoilt t words n xs (settle t words n (unsettled st) a) e))) in
      let b = both_true (every (readable t words st n) (expr_reads a.value)) (is_open (wire_of t words st n w)) g in
      let k = both_true (elem w targets) (not (elem w known)) (sym (K.opens w) ∙ b.1) in
      let e = settled_is st a b.0 b.1 in
      let x = every (λ v. elem v known) (expr_reads a.value) in
      let y = elem w targets in
      let z = not (elem w known) in
      pair (x && y && z) (assigns_good (w ∷ known) targets xs)
      (pair (x && y) z (pair x y (true-T x (sym (reads_known_lem K w (expr_reads a.value)) ∙ b.0)) (true-T y k.0))
      (true-T z k.1))
      (good-settle xs (w ∷ known) (settled t words st n w) (known_on K w b.1)
      (sym (ap (λ (S : Settled). (settle_all t words n S xs).good) e) ∙ h)
      (λ v q. sym (ap (λ (S : Settled). leb 5 (wire_of t words (settle_all t words n S xs).states n v)) e) ∙ f v q))
