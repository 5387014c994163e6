-- The search: where the tables stand at a choice, at the next one, and after the last that the budget allows.
use Prim.Native.Nat.{ℕ, zero, suc, ◌+◌, ◌-◌, ◌/◌, ◌%◌, ◌≤◌, ◌<◌, min}
use mathlib.Core.Path.{◌≡◌, refl, sym, ap, ap₂, ◌∙◌}
use mathlib.Core.Bool.{Bool, true, false, cond}
use mathlib.Core.List.{List, [], ◌∷◌, map}
use native.Mathlib.Nat.{div-eq_of_lt, mod-eq_of_lt}
use native.Mathlib.Omega.{arith}
use lib.Dec.{T, eqb, ltb, leb}
use borrow.Author.Tests.{leb-true, leb-false, ltb-true, ltb-false, lt-ltb, le-ltb, le-leb, lt-leb, eqb-true}
use lib.ListN.{length, get_or, take, drop, replicate, length-map, length-drop}
use lib.Seq.{get_or-append-add, take_all, drop-length}
use Rattle.netlist.specs.declared.Gate.{Gate}
use Rattle.netlist.specs.declared.Gate.TheVariants.{Xor, And, Inv, Eqw, Eq}
use Rattle.netlist.specs.Lists.{every}
use Rattle.netlist.specs.Netlist.{Netlist, input_bits, output_bits}
use Rattle.netlist.specs.Read.{WellFormed}
use Rattle.netlist.specs.Table.{Tables, half, gate_of, gate_at}
use Rattle.netlist.proofs.Tests.{both, on_bool}
use Rattle.netlist.proofs.Puts.{length-gates}
use Rattle.fewest.specs.Choice.{Choice, Agree, input_ways, gate_ways, ways, product, digits, choices, choice}
use Rattle.fewest.specs.Fewest.{FirstLeast, twices, changes_at, given, floor}
use Rattle.fewest.specs.Codes.{code_at, end_changes, changes_before, least_before, moved}
use Rattle.fewest.proofs.Digits.{digits-take, product-positive}
use Rattle.fewest.proofs.Chosen.{input-ways}
use Rattle.fewest.proofs.Least.{least_more, least-one}
use Rattle.fewest.proofs.Floor.{ways-positive, length-ways, changes-same, given-first}
use Rattle.fewest.proofs.Retried.{Ready, Idle, before_same, ready-idle, ready-first, ready-again, ready-changes}
use Rattle.fewest.proofs.Order.{moved_before, moved_at, moved-following, moved_same, digits-next, digits-end}
use Rattle.fewest.proofs.Order.{next-below, shared-below, number_digits}
use Rattle.fewest.proofs.Cuts.{cut, idle}
use Rattle.fewest.specs.Advance.{ways_at, choice_of, Advanced}
use Rattle.fewest.specs.Walk.{codes_to, added_to}
use Rattle.fewest.specs.Span.{span_of, capped, Spanned}
use Rattle.fewest.proofs.Walking.{gate-at, ready_walked}
use Rattle.fewest.proofs.Filling.{filled-first}
use Rattle.fewest.proofs.Spanning.{span-product}
use Rattle.fewest.specs.declared.search.Tally.{Tally}
use Rattle.fewest.specs.Try.{idle_at, cost_of, Entered}
use Rattle.fewest.specs.Search.{Source, Found}

-- ---- the ways of a place, in the list and in the tables

gate-ways : (gs : List Gate) (k : ℕ) (z : Gate) → k < length gs → get_or (map gate_ways gs) k 0
    ≡ gate_ways (get_or gs k z)
gate-ways [] k z h = absurd (omega arith)
gate-ways (g ∷ gs) zero z h = refl
gate-ways (g ∷ gs) (suc k) z h = gate-ways gs k z (omega arith)

kind-ways : (k a b c : ℕ) → gate_ways (gate_of k a b c) ≡ cond (eqb k 2) 2 1
kind-ways k a b c =
    on_bool (eqb k 1)
    (λ e. let q = eqb-true k 1 e in rw q refl)
    (λ e. rw e (go (eqb k 2) (eqb k 3) (eqb k 4) (eqb k 5)))
  where
    go : (q r s t : Bool)
        → gate_ways (cond q (And a b c) (cond r (Inv a c) (cond s (Eqw a c) (cond t (Eq 0 c) (Eq 1 c))))) ≡ cond q 2 1
    go true r s t = refl
    go false true s t = refl
    go false false true t = refl
    go false false false true = refl
    go false false false false = refl

-- a gate with two ways whose operands have equal codes
idle-kind : (u : ℕ → ℕ) (k a b c : ℕ) → u a ≡ u b → Idle u (gate_of k a b c)
idle-kind u k a b c e = go (eqb k 1) (eqb k 2) (eqb k 3) (eqb k 4) (eqb k 5)
  where
    go : (p q r s t : Bool)
        → Idle u (cond p (Xor a b c)
        (cond q (And a b c) (cond r (Inv a c) (cond s (Eqw a c) (cond t (Eq 0 c) (Eq 1 c))))))
    go true q r s t = tt
    go false true r s t = e
    go false false true s t = tt
    go false false false true t = tt
    go false false false false true = tt
    go false false false false false = tt

replicate-zero : (n p : ℕ) → ◌≡◌ {A = ℕ} (get_or (replicate n 0) p 0) 0
replicate-zero zero p = refl
replicate-zero (suc n) zero = refl
replicate-zero (suc n) (suc p) = replicate-zero n p

digits-zero : (bs : List ℕ) → T (every (leb 1) bs) → (q : ℕ) → get_or (digits bs 0) q 0 ≡ 0
digits-zero [] t q = refl
digits-zero (b ∷ bs) t zero = div-eq_of_lt (product-positive bs (both (leb 1 b) (every (leb 1) bs) t).1)
digits-zero (b ∷ bs) t (suc q) =
    let h = (both (leb 1 b) (every (leb 1) bs) t).1 in
    rw (mod-eq_of_lt (product-positive bs h)) (digits-zero bs h q)

every_drop : (P : ℕ) (xs : List ℕ) → T (every (leb 1) xs) → T (every (leb 1) (drop P xs))
every_drop zero xs t = t
every_drop (suc P) [] t = tt
every_drop (suc P) (x ∷ xs) t = every_drop P xs (both (leb 1 x) (every (leb 1) xs) t).1

-- ---- a netlist that the tables hold

module _ {t : Tables} {m : ℕ} {codes wanted : List ℕ} {W : ℕ} {N : Netlist} (Q : Source t m codes wanted W N) where
  abbrev n : ℕ
  n = length codes

  abbrev bs : List ℕ
  bs = ways codes N.gates

  abbrev f : ℕ → ℕ
  f j = changes_at N codes wanted j

  F : WellFormed N
  F = Q.formed

  l : length codes ≡ input_bits N
  l = sym Q.holds.ins

  pub held-length : length N.gates ≡ m
  held-length = ap length Q.holds.gates ∙ length-gates t m

  pos : T (every (leb 1) (ways codes N.gates))
  pos = ways-positive codes N.gates

  places : length (ways codes N.gates) ≡ length codes + m
  places = length-ways codes N.gates ∙ ap (λ (b : ℕ). length codes + b) held-length

  ways-at : (q : ℕ) → q < length codes + m → get_or (ways codes N.gates) q 0 ≡ ways_at codes t.results q
  ways-at q h =
      on_bool (ltb q (length codes))
      (λ e. let b = ltb-true q (length codes) e in input-ways codes N.gates q b
      ∙ sym (rw (lt-ltb q (length codes) b) refl))
      (λ e. let b = ltb-false q (length codes) e in
      let k = q - length codes in
      let no_gate : Gate = Eq 0 0 in
      let lm = length-map codes input_ways in
      let z : q ≡ length (map input_ways codes) + k = omega arith in
      let hl = held-length in
      ap (λ (j : ℕ). get_or (ways codes N.gates) j 0) z
      ∙ get_or-append-add (map input_ways codes) (map gate_ways N.gates) k 0
      ∙ gate-ways N.gates k no_gate (omega arith)
      ∙ ap gate_ways (ap (λ (gs : List Gate). get_or gs k no_gate) Q.holds.gates ∙ gate-at t m k no_gate (omega arith))
      ∙ kind-ways (get_or t.results k 0 / half) _ _ _
      ∙ sym (rw (le-ltb q (length codes) b) refl))

  -- how many choices share the places before P, from the table
  pub span-at : {s₀ s : List ℕ} → Spanned (ways_at codes t.results) (length codes + m) s₀ s → (P : ℕ) → 1 ≤ P
      → P ≤ length codes + m
      → get_or s (P - 1) 0 ≡ capped (product (drop P (ways codes N.gates)))
  span-at S P a b =
      let z : suc (P - 1) ≡ P = omega arith in
      let e = span-product (ways_at codes t.results) bs (λ q h. ways-at q (let p = places in omega arith))
      (length codes + m - P) P (let p = places in omega arith) in
      S.each (P - 1) (omega arith) ∙ ap (λ (k : ℕ). capped (span_of (ways_at codes t.results) k (length codes + m - k)))
      z ∙ ap capped (sym e)

  -- no other choice shares all places
  pub last_block : (P : ℕ) → P ≡ length codes + m → product (drop P (ways codes N.gates)) ≡ 1
  last_block P e =
      let y : P ≡ length (ways codes N.gates) = (let pl = places in omega arith) in
      ap product (ap (λ (q : ℕ). drop q bs) y ∙ drop-length bs)

  -- ---- a choice whose place p has moved, and one that is passed, with those that share its places before gate `stop`

  -- the best of the choices before number k is number `number`, at most j, in the table `best`
  pub record Best (k j : ℕ) (best : List ℕ) (least : ℕ) : Type 0 where
    pub number : ℕ
    pub first : FirstLeast (changes_at N codes wanted) k number
    pub early : number ≤ j
    pub kept : Agree (length codes + m) (choice_of best) (choice N codes number)
    pub count : least ≡ changes_at N codes wanted number

  -- the table of ways is at choice k, with first ways from place P on; the codes are ready for gate i, and the least
  -- changes known up to it
  pub record At (k P i : ℕ) (way code lows : List ℕ) : Type 0 where
    pub below : k < choices N codes
    pub same : Agree (length codes + m) (choice_of way) (choice N codes k)
    pub rest : (q : ℕ) → P ≤ q → q < length codes + m → choice_of way q ≡ 0
    pub within : P ≤ length codes + m
    pub long : N.wires ≤ length code
    pub ready : length codes < P → Ready N codes (choice_of way) i code
    pub up_to : (j : ℕ) → j ≤ i → get_or lows j 0 ≡ least_before N codes (choice_of way) j
    pub gates : i ≤ m

  -- the places of choice k after P, in the numbered choice
  rest_at : {k P i : ℕ} {way code lows : List ℕ} → At k P i way code lows → (q : ℕ) → P ≤ q
      → q < length (ways codes N.gates) → choice N codes k q ≡ 0
  rest_at A q h b = let p = places in sym (A.same q (omega arith)) ∙ A.rest q h (omega arith)

  pub product-following : (P : ℕ) → 1 ≤ product (drop P (ways codes N.gates))
  product-following P = product-positive (drop P bs) (every_drop P bs pos)

  module _ {k P i : ℕ} {way code lows : List ℕ} (A : At k P i way code lows) where
    abbrev d : Choice
    d = choice_of way

    -- choices that share the places before P are choices
    pub block_within : 1 ≤ P → k + product (drop P (ways codes N.gates)) ≤ choices N codes
    block_within h =
        let p = places in
        let w = A.within in
        let e : suc (P - 1) ≡ P = omega arith in
        let S = product (drop P bs) in
        let o = product-following P in
        let r : S - 1 < product (drop (suc (P - 1)) bs) = rw e (omega arith) in
        let b = shared-below bs (choice N codes k) (P - 1) (S - 1) (digits-take bs pos k A.below) (omega arith)
        (λ q a c. rest_at A q (omega arith) c) r in
        let y = number_digits bs pos k A.below in
        omega arith

    below-way : (q : ℕ) → q < length codes + m → choice_of way q < get_or (ways codes N.gates) q 0
    below-way q h =
        let y = digits-take bs pos k A.below q (let p = places in omega arith) in
        let e = A.same q h in
        omega arith

    lasts : (r : ℕ) {way' : List ℕ} → Advanced (ways_at codes t.results) P way way' r
        → (q : ℕ) → r ≤ q → q < P → suc (choice N codes k q) ≡ get_or (ways codes N.gates) q 0
    lasts r M q h b =
        let w = A.within in
        let x = ways-at q (omega arith) in
        let y = M.last q h b in
        let z = below-way q (omega arith) in
        let e = A.same q (omega arith) in
        omega arith

    -- no place moved: all choices were passed
    pub at-end : {way' : List ℕ} → Advanced (ways_at codes t.results) P way way' 0
        → k + product (drop P (ways codes N.gates)) ≡ choices N codes
    at-end M = digits-end bs pos k A.below P (let p = places in let w = A.within in omega arith)
        (λ q a b. rest_at A q a b) (λ q b. lasts 0 M q (omega arith) b)

    -- place p moved: the tables at the choice after
    module _ (p : ℕ) {way' : List ℕ} (M : Advanced (ways_at codes t.results) P way way' (suc p)) where
      here : p < P
      here = M.within

      further : suc (choice N codes k p) < get_or (ways codes N.gates) p 0
      further =
          let w = A.within in
          let h = here in
          let x = ways-at p (omega arith) in
          let y = M.further p refl in
          let e = A.same p (omega arith) in
          omega arith

      fits : P ≤ length (ways codes N.gates)
      fits = let p = places in let w = A.within in omega arith

      pub at_moved : 1 ≤ choice_of way' p
      at_moved = let e = M.moves p refl p here in let m = moved_at d p in omega arith

      agrees : (q : ℕ) → q < p → choice_of way q ≡ choice_of way' q
      agrees q h = let b = here in moved_before d p q h ∙ sym (M.moves p refl q (omega arith))

      pub at_next : i ≡ P - suc (length codes) → At (k + product (drop P (ways codes N.gates))) (suc p)
          (p - length codes) way' code lows
      at_next ie =
          let b = here in
          let w = A.within in
          let pl = places in
          let nl = l in
          let gl = held-length in
          record {
            below = next-below bs pos k A.below P fits (λ q a c. rest_at A q a c) p b further
                (λ q a c. lasts (suc p) M q a c);
            same = λ q h.
                on_bool (ltb q P)
                (λ e. let u = ltb-true q P e in
                M.moves p refl q u ∙ moved_same d (choice N codes k) p q (A.same p (omega arith)) (A.same q h)
                ∙ numbered q h)
                (λ e. let u = ltb-false q P e in
                M.kept q u ∙ A.rest q u h ∙ sym (moved-following (choice N codes k) p q (omega arith)) ∙ numbered q h);
            rest = λ q a h.
                on_bool (ltb q P)
                (λ e. M.moves p refl q (ltb-true q P e) ∙ moved-following d p q (omega arith))
                (λ e. let u = ltb-false q P e in M.kept q u ∙ A.rest q u h);
            within = omega arith;
            long = A.long;
            ready = λ h.
                ready-again F codes l d (choice_of way') (p - length codes) i code (omega arith)
                (let g = A.gates in omega arith)
                (λ q a. agrees q (omega arith)) (A.ready (omega arith));
            up_to = λ j h. A.up_to j (omega arith) ∙ least-same j (omega arith) (omega arith);
            gates = omega arith;
          }
        where
          numbered : (q : ℕ) → q < length codes + m → moved (choice N codes k) p q
              ≡ choice N codes (k + product (drop P (ways codes N.gates))) q
          numbered q h =
              sym (digits-next bs pos k A.below P fits (λ q a c. rest_at A q a c) p here further
              (λ q a c. lasts (suc p) M q a c) q (let p = places in omega arith))

          least-same : (j : ℕ) → j ≤ m → j ≤ p - length codes → least_before N codes d j
              ≡ least_before N codes (choice_of way') j
          least-same zero a h = refl
          least-same (suc j) a h =
              let nl = l in
              let gl = held-length in
              ap (λ (c : ℕ). c + twices (drop (suc j) N.gates))
              (before_same F codes l d (choice_of way') (suc j) (omega arith) (λ q b. agrees q (omega arith))).1

  -- ---- choice k is tried, whose place p has moved

  module _ {k p : ℕ} {way code lows : List ℕ} (A : At k (suc p) (p - length codes) way code lows) where
    -- its AND is idle
    pub tried-idle : {best : List ℕ} {least : ℕ} → Best k k best least → idle_at t.operands (length codes) p code ≡ true
        → length codes ≤ p → 1 ≤ choice_of way p
        → Best (k + product (drop (suc p) (ways codes N.gates))) k best least
    tried-idle B e h one =
        let i = p - length codes in
        let w = A.within in
        let pl = places in
        let nl = l in
        let gl = held-length in
        let no_gate : Gate = Eq 0 0 in
        let o = get_or t.operands i 0 in
        let r = get_or t.results i 0 in
        let x : code_at code (o % half) ≡ code_at code (o / half) =
        let z = le-ltb p (length codes) h in let e' = rw z at e in eqb-true (code_at code (o % half))
        (code_at code (o / half)) e' in
        let g : get_or N.gates i no_gate ≡ gate_at t i = ap (λ (gs : List Gate). get_or gs i no_gate) Q.holds.gates
        ∙ gate-at t m i no_gate (omega arith) in
        let y : Idle (code_at code) (get_or N.gates i no_gate)
        = rw g (idle-kind (code_at code) (r / half) (o % half) (o / half) (r % half) x) in
        let v = ready-idle F codes l (choice_of way) i code no_gate (omega arith) (A.ready (omega arith)) y in
        let same = A.same p (omega arith) in
        let c = (before_same F codes l (choice_of way) (choice N codes k) i (omega arith)
        (λ q a. A.same q (omega arith))).0 in
        record {
          number = B.number;
          first = idle F codes l wanted B.first A.below p (omega arith) (λ q a b. rest_at A q (omega arith) b) i no_gate
              (omega arith) (omega arith)
              (omega arith) (rw c at v);
          early = B.early;
          kept = B.kept;
          count = B.count;
        }

    -- it was tried from there on, up to gate `stop`
    module _ {code' lows' : List ℕ} {bound stop : ℕ} (E : Entered t m codes way p bound code lows code' lows' stop)
      where
        d' : Choice
        d' = choice_of way

        -- the table that the gates start from is ready for the first of them
        start-ready : Ready N codes (choice_of way) (p - length codes) E.table
        start-ready =
            let nl = l in
            on_bool (ltb p (length codes))
            (λ e. let h = ltb-true p (length codes) e in
            let F' = E.filled h in
            let z : p - length codes ≡ 0 = omega arith in
            rw z (ready-first F codes l (choice_of way) E.table (let s = F'.size in let w = A.long in omega arith)
            (λ w b. F'.filled w (omega arith) ∙ filled-first N codes way w (omega arith)
            (let g = below-way A w (omega arith) in let x = input-ways codes N.gates w (omega arith) in omega arith))))
            (λ e. let h = ltb-false p (length codes) e in
            let k = E.kept h in
            rw k (A.ready (omega arith)))

        whole : Ready N codes (choice_of way) stop code' × ((j : ℕ) → j ≤ stop → get_or lows' j 0
            ≡ least_before N codes (choice_of way) j)
        whole =
            let from = p - length codes in
            let W = E.walked in
            let lo = W.low in
            let hi = W.high in
            let z : from + (stop - from) ≡ stop = omega arith in
            let nl = l in
            let R = ready_walked F codes l t m Q.holds.gates way from E.table start-ready in (
              (let r = (R (stop - from) (omega arith)).0 in
                  let c : codes_to t (drop (input_bits N) way) from E.table (stop - from) ≡ code'
                  = ap (λ (b : ℕ). codes_to t (drop b way) from E.table (stop - from))
                  (sym l) ∙ sym W.done.codes in
                  rw (z, c) at r),
              λ j h. on_bool (ltb j from)
                  (λ e. let b = ltb-true j from e in W.done.kept j (omega arith) ∙ A.up_to j (omega arith))
                  (λ e. let b = ltb-false j from e in
                  let y : j ≡ from + (j - from) = omega arith in
                  ap (λ (x : ℕ). get_or lows' x 0) y ∙ W.done.lows (j - from) (omega arith)
                  ∙ ap₂ (λ (x b : ℕ). x + added_to t (drop b way) from E.table (j - from))
                  (A.up_to from (omega arith)) l
                  ∙ sym (R (j - from) (omega arith)).1
                  ∙ ap (least_before N codes (choice_of way)) (sym y)),
            )

        following-stop : suc p ≤ length codes + stop
        following-stop =
            on_bool (ltb p (length codes))
            (λ e. let h = ltb-true p (length codes) e in omega arith)
            (λ e. let h = ltb-false p (length codes) e in let w = A.within in let o = E.walked.on (omega arith)
            in omega arith)

        pub at_tried : At k (length codes + stop) (stop - 1) way code' lows'
        at_tried =
            let W = whole in
            let gl = held-length in
            let hi = E.walked.high in
            let bh = following-stop in
            record {
              below = A.below;
              same = A.same;
              rest = λ q a h. A.rest q (omega arith) h;
              within = omega arith;
              long = W.0.long;
              ready = λ h. ready-again F codes l (choice_of way) (choice_of way) (stop - 1) stop code' (omega arith)
                  (omega arith) (λ q a. refl) W.0;
              up_to = λ j h. W.1 j (omega arith);
              gates = omega arith;
            }

        -- there are as many changes as the best has: the choices that share its places up to there are left out
        pub tried-cut : {best : List ℕ} {least : ℕ} → Best k k best least → 1 ≤ length codes → least ≤ bound
            → bound ≤ get_or lows' stop 0
            → Best (k + product (drop (length codes + stop) (ways codes N.gates))) k best least
        tried-cut B one h b =
            let P = length codes + stop in
            let hi = E.walked.high in
            let gl = held-length in
            let pl = places in
            let nl = l in
            let y : suc (P - 1) ≡ P = omega arith in
            let e = whole.1 stop (omega arith) in
            let c = B.count in
            let u : least_before N codes (choice_of way) stop ≡ least_before N codes (choice N codes k) stop =
            ap (λ (x : ℕ). x + twices (drop stop N.gates))
            (before_same F codes l (choice_of way) (choice N codes k) stop (omega arith)
            (λ q a. A.same q (omega arith))).1 in
            let bh = following-stop in
            let r = cut F codes l wanted B.first A.below (P - 1) (omega arith)
            (λ q a v. rest_at A q (omega arith) v) stop
            (omega arith) (omega arith)
            (omega arith) in
            record { number = B.number; first = rw y at r; early = B.early; kept = B.kept; count = B.count }

        -- all its gates are done
        module _ (z : stop ≡ m) where
          pub cost-is : length code' ≡ N.wires → cost_of code' lows' m wanted ≡ changes_at N codes wanted k
          cost-is lc =
              let W = whole in
              let gl = held-length in
              let ol : output_bits N ≡ length wanted = Q.holds.outs in
              let o : output_bits N ≤ N.wires = F.outputs_fit in
              let dl = drop (N.wires - output_bits N) code' in
              let e = W.1 stop (omega arith) in
              let v : least_before N codes (choice_of way) (length N.gates) ≡ changes_before N codes (choice_of way)
              (length N.gates) =
              (let x = ap twices (drop-length N.gates) in omega arith) in
              let R : Ready N codes (choice_of way) (length N.gates) code'
              = (let y : stop ≡ length N.gates = omega arith in rw y at W.0) in
              let ta : take (output_bits N) (drop (N.wires - output_bits N) code')
              ≡ drop (N.wires - output_bits N) code'
              =
              take_all (output_bits N) (drop (N.wires - output_bits N) code')
              (let x = length-drop (N.wires - output_bits N) code' in omega arith) in
              let first : get_or lows' m 0 ≡ changes_before N codes (choice_of way) (length N.gates) =
              (let y : m ≡ stop = omega arith in let y' : stop ≡ length N.gates = omega arith in
              ap (λ (x : ℕ). get_or lows' x 0) y ∙ e ∙ ap (least_before N codes (choice_of way)) y' ∙ v) in
              let last : drop (length code' - length wanted) code'
              ≡ take (output_bits N) (drop (N.wires - output_bits N) code') =
              ap₂ (λ (a b : ℕ). drop (a - b) code') lc (sym ol) ∙ sym ta in
              ap₂ (λ (a : ℕ) (es : List ℕ). a + end_changes es wanted) first last
              ∙ sym (ready-changes F codes l wanted (choice_of way) code' R)
              ∙ changes-same N codes wanted l (choice_of way) (choice N codes k)
              (λ q h. A.same q (let pl = places in omega arith))

          pub tried_same : {best : List ℕ} {least c : ℕ} → Best k k best least → c ≡ changes_at N codes wanted k
              → least ≤ c
              → Best (k + product (drop (length codes + stop) (ways codes N.gates))) k best least
          tried_same B e h =
              let c = B.count in
              let y : ltb (changes_at N codes wanted k) (changes_at N codes wanted B.number) ≡ false =
              le-ltb (changes_at N codes wanted k) (changes_at N codes wanted B.number) (omega arith) in
              let o : k + product (drop (length codes + stop) bs) ≡ suc k
              = (let x = last_block (length codes + stop) (omega arith) in omega arith) in
              record {
                number = B.number;
                first = rw o (rw y at (least_more f k B.number B.first));
                early = B.early;
                kept
                    = B.kept;
                count = B.count;
              }

          pub tried-fewer : {best : List ℕ} {least c : ℕ} → Best k k best least → c ≡ changes_at N codes wanted k
              → c < least
              → Best (k + product (drop (length codes + stop) (ways codes N.gates))) k way c
          tried-fewer B e h =
              let c = B.count in
              let y : ltb (changes_at N codes wanted k) (changes_at N codes wanted B.number) ≡ true =
              lt-ltb (changes_at N codes wanted k) (changes_at N codes wanted B.number) (omega arith) in
              let o : k + product (drop (length codes + stop) bs) ≡ suc k
              = (let x = last_block (length codes + stop) (omega arith) in omega arith) in
              record {
                number = k;
                first = rw o (rw y at (least_more f k B.number B.first));
                early = omega arith;
                kept
                    = A.same;
                count = e;
              }

  -- ---- the first choice

  -- the first choice is number 0
  zero-choice : (q : ℕ) → q < length codes + m → 0 ≡ choice N codes 0 q
  zero-choice q h = sym (digits-zero bs pos q)

  pub at_first : (x : ℕ) {way code lows : List ℕ} → way ≡ replicate x 0 → N.wires ≤ length code → get_or lows 0 0
      ≡ twices N.gates → 1 ≤ length codes
      → At 0 1 (0 - length codes) way code lows
  at_first x w lc z one = record {
    below = product-positive bs pos;
    same = λ q h. ap (λ (v : List ℕ). get_or v q 0) w ∙ replicate-zero x q ∙ zero-choice q h;
    rest = λ q a h. ap (λ (v : List ℕ). get_or v q 0) w ∙ replicate-zero x q;
    within = omega arith;
    long = lc;
    ready = λ h. absurd (omega arith);
    up_to = λ j h. let y : j ≡ 0 = omega arith in rw y (z ∙ omega arith);
    gates = omega arith;
  }

  -- ---- the end: as many tried as the budget allows

  wires-are : N.wires ≡ length codes + m
  wires-are = let g = F.gate_count in let h = held-length in let i = l in let b = F.inputs_fit in omega arith

  module _ {budget k j : ℕ} {best : List ℕ} {least : ℕ} (one : 1 ≤ budget) (e : k ≡ min budget (choices N codes))
      (B : Best k j best least) where
    number-given : B.number ≡ given N codes wanted budget
    number-given = least-one (rw e at B.first) (given-first N codes wanted l budget one)

    least-given : least ≡ changes_at N codes wanted (given N codes wanted budget)
    least-given = B.count ∙ ap (changes_at N codes wanted) number-given

    module _ (r : Tally) (c : r.changes ≡ least) where
      found : r.floor ≡ floor N codes wanted budget → Found N codes wanted budget best r
      found fl = record {
        choice = λ p h. B.kept p (let w = wires-are in omega arith) ∙ ap (λ (x : ℕ). choice N codes x p) number-given;
        changes = c ∙ least-given;
        floor = fl;
      }

      -- all choices were tried, or not
      pub found_all : choices N codes ≤ budget → r.floor ≡ least → Found N codes wanted budget best r
      found_all h fl = found (fl ∙ least-given ∙ sym (rw (le-leb (choices N codes) budget h) refl))

      pub found_some : budget < choices N codes → r.floor ≡ twices N.gates → Found N codes wanted budget best r
      found_some h fl = found (fl ∙ sym (rw (lt-leb (choices N codes) budget h) refl))

      -- the fewest that there can be
      pub found-least : least ≡ twices N.gates → r.floor ≡ least → Found N codes wanted budget best r
      found-least e fl =
          on_bool (leb (choices N codes) budget)
          (λ z. found_all (leb-true (choices N codes) budget z) fl)
          (λ z. found_some (leb-false (choices N codes) budget z) (fl ∙ e))
