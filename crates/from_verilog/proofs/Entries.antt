-- Values of names in a table beside that of the names.
use Prim.Native.Nat.{ℕ, zero, suc, ◌+◌, ◌-◌, ◌≤◌, ◌<◌}
use mathlib.Core.Path.{◌≡◌, refl, sym, ap, ap₂, ◌∙◌}
use mathlib.Core.Bool.{Bool, true, false, cond, not, ◌&&◌, ◌||◌}
use mathlib.Core.List.{List, [], ◌∷◌, ◌++◌}
use native.Mathlib.Omega.{arith}
use lib.Dec.{eqb, leb}
use lib.ListN.{length, get_or, set, take, length-set}
use lib.Seq.{get_or-set_same, get_or-set_other}
use borrow.Author.Tests.{eq-eqb, ne_eqb, eqb-true, eqb-false}
use Rattle.netlist.specs.Lists.{every, same_bytes}
use Rattle.netlist.proofs.Tests.{on_bool}
use Rattle.verilog.specs.Tokens.{elem}
use Rattle.verilog.specs.Equations.{Entry, entry}
use Rattle.verilog.proofs.Listing.{same-equal, same_self}
use Rattle.from_verilog.proofs.Firsts.{never}
use Rattle.from_verilog.specs.Names.{name_at, names_of, found}
use Rattle.from_verilog.proofs.Chains.{found_within}
use Rattle.from_verilog.specs.Wires.{wire_of, set_before, given}
use Rattle.from_verilog.specs.States.{becomes, all_from}
use Rattle.from_verilog.specs.Stages.{keys, kinds, fresh}
use Rattle.from_verilog.proofs.Declaring.{same-other, found-elem}
use Rattle.from_verilog.proofs.Moves.{found_name, state-none, state-some, every_take}

-- ---- words that are the same

pub same_turn : (u v : List ℕ) → same_bytes u v ≡ same_bytes v u
same_turn u v = on_bool (same_bytes u v)
    (λ e. e ∙ sym (ap (λ (x : List ℕ). same_bytes v x) (same-equal u v e) ∙ same_self v))
    (λ e. e ∙ sym (same-other u v e))

pub or-false : (b : Bool) → (b || false) ≡ b
or-false true = refl
or-false false = refl

pub or-none : (a b : Bool) → a ≡ false → (a || b) ≡ b
or-none a b e = ap (λ (x : Bool). x || b) e

-- ---- names of which none stands twice

fresh-snoc : (ps ws : List (List ℕ)) (w : List ℕ) → fresh ps (ws ++ w ∷ []) ≡ (fresh ps ws && not (elem w (ps ++ ws)))
unfolding fresh
fresh-snoc ps [] w = last (not (elem w ps)) ∙ ap (λ (x : List (List ℕ)). true && not (elem w x)) (sym (nil ps))
  where
    last : (b : Bool) → (b && true) ≡ (true && b)
    last true = refl
    last false = refl

    nil : (xs : List (List ℕ)) → xs ++ [] ≡ xs
    nil [] = refl
    nil (x ∷ xs) = ap (λ (ys : List (List ℕ)). x ∷ ys) (nil xs)
fresh-snoc ps (v ∷ ws) w =
    ap (λ (b : Bool). not (elem v ps) && b) (fresh-snoc (ps ++ v ∷ []) ws w
    ∙ ap (λ (x : List (List ℕ)). fresh (ps ++ v ∷ []) ws && not (elem w x)) (group ps))
    ∙ assoc (not (elem v ps)) (fresh (ps ++ v ∷ []) ws) (not (elem w (ps ++ v ∷ ws)))
  where
    assoc : (a b c : Bool) → (a && (b && c)) ≡ ((a && b) && c)
    assoc true b c = refl
    assoc false b c = refl

    group : (xs : List (List ℕ)) → (xs ++ v ∷ []) ++ ws ≡ xs ++ (v ∷ ws)
    group [] = refl
    group (x ∷ xs) = ap (λ (ys : List (List ℕ)). x ∷ ys) (group xs)

-- ---- entries

-- a name with a value
abbrev pub valued : ℕ → List ℕ → List (Entry ℕ) → Bool
valued c w [] = false
valued c w (e ∷ es) = (same_bytes w e.key && eqb e.value c) || valued c w es

pub valued-append : (c : ℕ) (w : List ℕ) (xs ys : List (Entry ℕ)) → valued c w (xs ++ ys)
    ≡ (valued c w xs || valued c w ys)
valued-append c w [] ys = refl
valued-append c w (x ∷ xs) ys = ap (λ (b : Bool). (same_bytes w x.key && eqb x.value c) || b) (valued-append c w xs ys)
    ∙ assoc
    (same_bytes w x.key && eqb x.value c) (valued c w xs) (valued c w ys)
  where
    assoc : (a b c : Bool) → (a || (b || c)) ≡ ((a || b) || c)
    assoc true b c = refl
    assoc false b c = refl

pub valued-none : (c : ℕ) (w : List ℕ) (xs : List (Entry ℕ)) → elem w (keys xs) ≡ false → valued c w xs ≡ false
valued-none c w [] e = refl
valued-none c w (x ∷ xs) e = on_bool (same_bytes w x.key)
    (λ q. absurd (never (rw q at e)))
    (λ q. rw q (valued-none c w xs (rw q at e)))

pub keys-append : (xs ys : List (Entry ℕ)) → keys (xs ++ ys) ≡ keys xs ++ keys ys
keys-append [] ys = refl
keys-append (x ∷ xs) ys = ap (λ (zs : List (List ℕ)). x.key ∷ zs) (keys-append xs ys)

pub kinds-append : (xs ys : List (Entry ℕ)) → kinds (xs ++ ys) ≡ kinds xs ++ kinds ys
kinds-append [] ys = refl
kinds-append (x ∷ xs) ys = ap (λ (zs : List ℕ). x.value ∷ zs) (kinds-append xs ys)

take_more : (xs : List ℕ) (n : ℕ) → n < length xs → take (suc n) xs ≡ take n xs ++ get_or xs n 0 ∷ []
take_more [] n h = absurd (omega arith)
take_more (x ∷ xs) zero h = refl
take_more (x ∷ xs) (suc n) h = ap (λ (ys : List ℕ). x ∷ ys) (take_more xs n (omega arith))

entries-same : (xs ys : List (Entry ℕ)) → keys xs ≡ keys ys → kinds xs ≡ kinds ys → xs ≡ ys
entries-same [] [] p q = refl
entries-same [] (y ∷ ys) p q = let l = ap length p in absurd (omega (arith, l))
entries-same (x ∷ xs) [] p q = let l = ap length p in absurd (omega (arith, l))
entries-same (x ∷ xs) (y ∷ ys) p q =
    let e : x ≡ y = λ i. record { key = first (p i); value = lead (q i) } in
    ap₂ (λ (z : Entry ℕ) (zs : List (Entry ℕ)). z ∷ zs) e (entries-same xs ys (ap following p) (ap rest q))
  where
    first : List (List ℕ) → List ℕ
    first [] = []
    first (w ∷ ws) = w

    following : List (List ℕ) → List (List ℕ)
    following [] = []
    following (w ∷ ws) = ws

    lead : List ℕ → ℕ
    lead [] = 0
    lead (k ∷ ks) = k

    rest : List ℕ → List ℕ
    rest [] = []
    rest (k ∷ ks) = ks

pub every-same : (p q : List ℕ → Bool) (ws : List (List ℕ)) → ((w : List ℕ) → elem w ws ≡ true → p w ≡ q w) → every p ws
    ≡ every q ws
every-same p q [] f = refl
every-same p q (w ∷ ws) f = ap₂ ◌&&◌ (f w (ap (λ (b : Bool). b || elem w ws) (same_self w)))
    (every-same p q ws (λ v h. f v (right (same_bytes v w) (elem v ws) h)))
  where
    right : (a b : Bool) → b ≡ true → (a || b) ≡ true
    right true b e = refl
    right false b e = e

pub every-snoc : (p : List ℕ → Bool) (ws : List (List ℕ)) (w : List ℕ) → every p (ws ++ w ∷ []) ≡ (every p ws && p w)
every-snoc p [] w = go (p w)
  where
    go : (b : Bool) → (b && true) ≡ (true && b)
    go true = refl
    go false = refl
every-snoc p (v ∷ ws) w = ap (λ (b : Bool). p v && b) (every-snoc p ws w) ∙ assoc (p v) (every p ws) (p w)
  where
    assoc : (a b c : Bool) → (a && (b && c)) ≡ ((a && b) && c)
    assoc true b c = refl
    assoc false b c = refl

module _ (t words : List ℕ) where
  -- none of the first n names stands twice
  abbrev pub Once : ℕ → Type 0
  Once n = fresh [] (names_of t words n) ≡ true

  once-less : (n : ℕ) → Once (suc n) → Once n × (elem (name_at t words n) (names_of t words n) ≡ false)
  once-less n h = go (fresh [] (names_of t words n)) (elem (name_at t words n) (names_of t words n))
      (sym (fresh-snoc [] (names_of t words n) (name_at t words n)) ∙ h)
    where
      go : (a b : Bool) → (a && not b) ≡ true → (a ≡ true) × (b ≡ false)
      go true true e = absurd (never (sym e))
      go true false e = (refl, refl)
      go false b e = absurd (never (sym e))

  -- the value of a name, by the last entry
  wire-more : (st : List ℕ) (n : ℕ) (w : List ℕ) → wire_of t words st (suc n) w
      ≡ cond (same_bytes (name_at t words n) w) (get_or st n 0) (wire_of t words st n w)
  unfolding wire_of found
  wire-more st n w = on_bool (same_bytes (name_at t words n) w) (λ e. rw e) (λ e. rw e)

  -- ---- kinds

  abbrev pub entries_in : List ℕ → ℕ → List (Entry ℕ)
  entries_in st zero = []
  entries_in st (suc n) = entries_in st n ++ entry (name_at t words n) (get_or st n 0) ∷ []

  keys_in : (st : List ℕ) (n : ℕ) → keys (entries_in st n) ≡ names_of t words n
  keys_in st zero = refl
  keys_in st (suc n) = keys-append (entries_in st n) (entry (name_at t words n) (get_or st n 0) ∷ [])
      ∙ ap (λ (xs : List (List ℕ)). xs ++ name_at t words n ∷ [])
      (keys_in st n)

  kinds-in : (st : List ℕ) (n : ℕ) → n ≤ length st → kinds (entries_in st n) ≡ take n st
  kinds-in st zero h = refl
  kinds-in st (suc n) h =
      kinds-append (entries_in st n) (entry (name_at t words n) (get_or st n 0) ∷ [])
      ∙ ap (λ (xs : List ℕ). xs ++ get_or st n 0 ∷ []) (kinds-in st n (omega arith))
      ∙ sym (take_more st n h)

  -- the table's entries are those of the list
  pub entries-are : (st : List ℕ) (n : ℕ) (es : List (Entry ℕ)) → n ≤ length st → names_of t words n ≡ keys es
      → take n st ≡ kinds es → entries_in st n ≡ es
  entries-are st n es h p q = entries-same (entries_in st n) es (keys_in st n ∙ p) (kinds-in st n h ∙ q)

  -- a name's value is c exactly if it has an entry with it
  pub value_in : (st : List ℕ) (c : ℕ) (w : List ℕ) → 0 < c → (n : ℕ) → Once n → eqb (wire_of t words st n w) c
      ≡ valued c w (entries_in st n)
  value_in st c w h zero o = ap (λ (x : ℕ). eqb x c) (state-none t words st w 0 nothing)
      ∙ ne_eqb 0 c (λ z. omega (arith, z, h))
    where
      nothing : found t words w 0 ≡ 0
      nothing = omega (arith, found_within t words w 0)
  value_in st c w h (suc n) o =
      let x = name_at t words n in
      let q = once-less n o in
      let a = valued-append c w (entries_in st n) (entry x (get_or st n 0) ∷ []) in
      on_bool (same_bytes x w)
      (λ e. let no : elem w (keys (entries_in st n)) ≡ false = ap (elem w) (keys_in st n)
      ∙ ap (λ (v : List ℕ). elem v (names_of t words n))
      (sym (same-equal x w e)) ∙ q.1 in
      ap (λ (y : ℕ). eqb y c) (wire-more st n w ∙ ap (λ (b : Bool). cond b (get_or st n 0) (wire_of t words st n w)) e)
      ∙ sym (a ∙ or-none (valued c w (entries_in st n)) ((same_bytes w x && eqb (get_or st n 0) c) || false)
      (valued-none c w (entries_in st n) no)
      ∙ or-false (same_bytes w x && eqb (get_or st n 0) c) ∙ ap (λ (b : Bool). b && eqb (get_or st n 0) c)
      (same_turn w x ∙ e)))
      (λ e. ap (λ (y : ℕ). eqb y c)
      (wire-more st n w ∙ ap (λ (b : Bool). cond b (get_or st n 0) (wire_of t words st n w)) e)
      ∙ value_in st c w h n q.0
      ∙ sym (a ∙ ap (λ (b : Bool). valued c w (entries_in st n) || ((b && eqb (get_or st n 0) c) || false))
      (same_turn w x ∙ e)
      ∙ or-false (valued c w (entries_in st n))))

  -- ---- all values

  pub all_named : (st : List ℕ) (least n : ℕ) → n ≤ length st → Once n → all_from st n least
      ≡ every (λ w. leb least (wire_of t words st n w)) (names_of t words n)
  all_named st least zero h o = refl
  all_named st least (suc n) h o =
      let x = name_at t words n in
      let q = once-less n o in
      let z : suc n ≡ n + 1 = omega arith in
      let same : every (λ w. leb least (wire_of t words st n w)) (names_of t words n)
      ≡ every (λ w. leb least (wire_of t words st (suc n) w)) (names_of t words n)
      = every-same (λ w. leb least (wire_of t words st n w)) (λ w. leb least (wire_of t words st (suc n) w))
      (names_of t words n)
      (λ w e. ap (leb least) (sym (wire-more st n w ∙ ap (λ (b : Bool). cond b (get_or st n 0) (wire_of t words st n w))
      (other n w e q.1)))) in
      let here : leb least (get_or st n 0) ≡ leb least (wire_of t words st (suc n) x) = ap (leb least)
      (sym (wire-more st n x ∙ ap (λ (b : Bool). cond b (get_or st n 0) (wire_of t words st n x)) (same_self x))) in
      ap (λ (k : ℕ). all_from st k least) z ∙ every_take (λ y. leb least y) st n (omega arith)
      ∙ ap₂ ◌&&◌ (all_named st least n (omega arith) q.0 ∙ same) here
      ∙ sym (every-snoc (λ w. leb least (wire_of t words st (suc n) w)) (names_of t words n) x)
    where
      other : (n : ℕ) (w : List ℕ) → elem w (names_of t words n) ≡ true → elem (name_at t words n) (names_of t words n)
          ≡ false → same_bytes (name_at t words n) w ≡ false
      other n w e f = on_bool (same_bytes (name_at t words n) w)
          (λ s. absurd (never (sym e ∙ ap (λ (v : List ℕ). elem v (names_of t words n))
          (sym (same-equal (name_at t words n) w s)) ∙ f)))
          (λ s. s)

  -- ---- one value changed

  module _ (n : ℕ) (w : List ℕ) (some : 0 < found t words w n) (x : ℕ) where
    pub wire-set : (st : List ℕ) → n ≤ length st → (v : List ℕ)
        → wire_of t words (set st (found t words w n - 1) x) n v ≡ cond (same_bytes v w) x (wire_of t words st n v)
    wire-set st l v =
        let i = found t words w n - 1 in
        let st' = set st i x in
        let b = found_within t words w n in
        on_bool (same_bytes v w)
        (λ e. let q : v ≡ w = same-equal v w e in
        ap (wire_of t words st' n) q ∙ state-some t words st' w n some
        ∙ get_or-set_same st i x 0 (omega (arith, b, some, l)) ∙ sym
        (ap (λ (c : Bool). cond c x (wire_of t words st n v)) e))
        (λ e. on_bool (eqb (found t words v n) 0)
        (λ z. let f = eqb-true (found t words v n) 0 z in
        state-none t words st' v n f ∙ sym (state-none t words st v n f)
        ∙ sym (ap (λ (c : Bool). cond c x (wire_of t words st n v)) e))
        (λ z. let f = eqb-false (found t words v n) 0 z in
        let p : 0 < found t words v n = omega (arith, f) in
        let d : found t words v n - 1 ≡ i → ⊥ = λ y. never (sym (ap (λ (u : List ℕ). same_bytes u w)
        (sym (found_name t words v n p) ∙ ap (name_at t words) y ∙ found_name t words w n some) ∙ same_self w) ∙ e) in
        state-some t words st' v n p ∙ get_or-set_other st i (found t words v n - 1) x 0 d
        ∙ sym (state-some t words st v n p) ∙ sym
        (ap (λ (c : Bool). cond c x (wire_of t words st n v)) e)))

    pub wire-given : (st : List ℕ) → n ≤ length st → (v : List ℕ) → wire_of t words (given t words st n w x) n v
        ≡ cond (same_bytes v w) x (wire_of t words st n v)
    unfolding given
    wire-given st l v = ap (λ (ys : List ℕ). wire_of t words ys n v) (go (found t words w n) some) ∙ wire-set st l v
      where
        go : (p : ℕ) → 0 < p → set_before p st x ≡ set st (p - 1) x
        go zero h = absurd (omega arith)
        go (suc i) h = let z : suc i - 1 ≡ i = omega arith in sym (ap (λ (j : ℕ). set st j x) z)

  -- a name with a value above 0 has an entry
  pub valued_found : (st : List ℕ) (n : ℕ) (w : List ℕ) → 0 < wire_of t words st n w → 0 < found t words w n
  valued_found st n w h = on_bool (eqb (found t words w n) 0)
      (λ z. let k = state-none t words st w n (eqb-true (found t words w n) 0 z) in absurd (omega (arith, h, k)))
      (λ z. let f = eqb-false (found t words w n) 0 z in omega (arith, f))

  -- a name is in an entry exactly if it is found
  pub elem-found : (n : ℕ) (w : List ℕ) → elem w (names_of t words n) ≡ true → 0 < found t words w n
  elem-found n w e =
      let q = found-elem t words w n ∙ ap not e in
      let f = eqb-false (found t words w n) 0 q in
      omega (arith, f)

  -- a move of a name that is in its first state
  pub wire-moved : (st : List ℕ) (n : ℕ) (w : List ℕ) (old new : ℕ) → n ≤ length st → 0 < old → wire_of t words st n w
      ≡ old
      → (v : List ℕ) → wire_of t words (becomes t words st n w old new) n v
      ≡ cond (same_bytes v w) new (wire_of t words st n v)
  wire-moved st n w old new l h e v =
      let k = eq-eqb (wire_of t words st n w) old e in
      ap (λ (b : Bool). wire_of t words (cond b (set st (found t words w n - 1) new) st) n v) k
      ∙ wire-set n w (valued_found st n w (omega (arith, e, h))) new st l v

-- lengths stay
pub length-becomes : (t words st : List ℕ) (n : ℕ) (w : List ℕ) (old new : ℕ) → length (becomes t words st n w old new)
    ≡ length st
length-becomes t words st n w old new = on_bool (eqb (wire_of t words st n w) old)
    (λ e. rw e (length-set st (found t words w n - 1) new)) (λ e. rw e)

pub length-given : (t words st : List ℕ) (n : ℕ) (w : List ℕ) (x : ℕ) → length (given t words st n w x) ≡ length st
unfolding given
length-given t words st n w x = go (found t words w n)
  where
    go : (p : ℕ) → length (set_before p st x) ≡ length st
    go zero = refl
    go (suc i) = length-set st i x
