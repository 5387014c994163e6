-- The loop of the search: where it stands, for every netlist that the gate tables hold.
use Prim.Native.Nat.{ℕ, suc, ◌+◌, ◌-◌, ◌^◌, ◌≤◌, ◌<◌, min}
use mathlib.Core.Path.{◌≡◌, refl, sym, ap, ◌∙◌}
use mathlib.Core.Logic.{⊎_elim}
use mathlib.Core.List.{List, [], ◌∷◌}
use native.Mathlib.Nat.{min-eq_left, min-eq_right}
use native.Mathlib.Omega.{arith}
use lib.Dec.{ltb, leb}
use borrow.Author.Tests.{leb-true, leb-false, ltb-true, ltb-false}
use lib.ListN.{length, get_or, set, drop, length-drop, length-replicate}
use lib.Seq.{get_or-set_same, length-take-le}
use Rattle.netlist.specs.declared.Gate.{Gate}
use Rattle.netlist.specs.Netlist.{Netlist, input_bits}
use Rattle.netlist.specs.Table.{Tables, gates_of}
use Rattle.netlist.proofs.Tests.{on_bool}
use Rattle.fewest.specs.Choice.{Choice, chosen_gates, ways, product, choices, chosen_inputs, choice}
use Rattle.fewest.specs.Fewest.{twices, changes_at}
use Rattle.fewest.specs.Codes.{code_at, coded, code_changes, first_codes, least_before}
use Rattle.fewest.proofs.Chosen.{length-chosen_gates}
use Rattle.fewest.proofs.TwicesLaws.{twices-below}
use Rattle.fewest.proofs.Least.{least-some, first_least-is}
use Rattle.fewest.specs.Advance.{ways_at, choice_of, Advanced}
use Rattle.fewest.specs.Span.{capped, Spanned}
use Rattle.fewest.proofs.Walking.{change-most}
use Rattle.fewest.proofs.Counting.{twices-most}
use Rattle.fewest.specs.declared.search.Tally.{Tally}
use Rattle.fewest.specs.declared.choice.Tried.{Tried}
use Rattle.fewest.specs.Try.{cost_of, Idles, Tries, TriedIs}
use Rattle.fewest.specs.Search.{Source, Begun, Found}
use Rattle.fewest.proofs.Trying.{idle-place}
use Rattle.fewest.proofs.Searching.{Best, At, held-length, span-at, product-following, block_within, at-end, at_moved}
use Rattle.fewest.proofs.Searching.{at_next, tried-idle, at_tried, tried-cut, cost-is, tried_same, tried-fewer}
use Rattle.fewest.proofs.Searching.{at_first, last_block, found_all, found_some, found-least}

-- ---- the least changes are no more than the gates

changes-most : (u : List ℕ) (gs : List Gate) → code_changes u gs ≤ length gs
changes-most u [] = omega arith
changes-most u (g ∷ gs) = omega (arith, change-most (code_at u) g, changes-most (coded u g) gs)

least-most : (N : Netlist) (codes : List ℕ) (d : Choice) (j : ℕ) → j ≤ length N.gates → least_before N codes d j ≤
    length N.gates
least-most N codes d j h =
    let gs = lib.ListN.take j N.gates in
    let c = changes-most (first_codes N (chosen_inputs codes d)) (chosen_gates d (input_bits N) gs) in
    let lc = length-chosen_gates d (input_bits N) gs in
    let lt = length-take-le j N.gates h in
    let t = twices-most (drop j N.gates) in
    let ld = length-drop j N.gates in
    omega arith

min-below : (a b c : ℕ) → c < a → c < b → c < min a b
min-below a b c h k =
    on_bool (leb a b)
    (λ z. rw (min-eq_left (leb-true a b z)) h)
    (λ z. let g = leb-false a b z in let l : b ≤ a = omega arith in rw (min-eq_right l) k)

-- as the code tells that a place moved, and that choices are left
pub left-some : (r : ℕ) → (r ≡ 0 → ⊥) → 1 ≤ r
left-some r h = omega arith

-- ---- the loop

-- the choice number budget - left was tried, or passed with those that share its places before gate `stop`; `left`
-- choices may still be passed, itself among them
pub record Standing (t : Tables) (m : ℕ) (codes wanted : List ℕ) (W budget : ℕ) (way best code lows : List ℕ)
    (least stop left : ℕ) : Type 0 where
  pub high : stop ≤ m
  pub some : 1 ≤ left
  pub within : left ≤ budget
  pub spent : stop < m → left < budget
  pub ways-long : length way ≡ W
  pub bests-long : length best ≡ W
  pub codes-long : length code ≡ W
  pub least_before-long : length lows ≡ W
  pub at : {N : Netlist} (Q : Source t m codes wanted W N) → At Q (budget - left) (length codes + stop) (stop - 1) way
      code lows
  pub best-so : {N : Netlist} (Q : Source t m codes wanted W N)
      → Best Q (budget - left + product (drop (length codes + stop) (ways codes N.gates))) (budget - left) best least

module _ {t : Tables} {m : ℕ} {codes wanted : List ℕ} {W budget : ℕ} {s₀ s : List ℕ} (one : 1 ≤ length codes)
    (big : budget < 2 ^ 64)
    (S : Spanned (ways_at codes t.results) (length codes + m) s₀ s) where
  module _ {way best code lows : List ℕ} {least stop left : ℕ}
      (I : Standing t m codes wanted W budget way best code lows least stop left) where
    abbrev k : ℕ
    k = budget - left

    module _ {N : Netlist} (Q : Source t m codes wanted W N) where
      abbrev block : ℕ
      block = product (drop (length codes + stop) (ways codes N.gates))

      -- the entry of the table, capped
      span-is : get_or s (length codes + stop - 1) 0 ≡ capped
          (product (drop (length codes + stop) (ways codes N.gates)))
      span-is = let h = I.high in span-at Q S (length codes + stop) (omega arith) (omega arith)

      -- where as many choices are left, it is not
      exact : get_or s (length codes + stop - 1) 0 ≤ left → get_or s (length codes + stop - 1) 0
          ≡ product (drop (length codes + stop) (ways codes N.gates))
      exact h =
          let e = span-is in
          let w = I.within in
          let hi = I.high in
          on_bool (ltb stop m)
          (λ z. let b = I.spent (ltb-true stop m z) in omega arith)
          (λ z. let b = ltb-false stop m z in
          let o = last_block Q (length codes + stop) (omega arith) in omega arith)

      -- one choice at least, this one
      pub span-some : 1 ≤ get_or s (length codes + stop - 1) 0
      span-some = let e = span-is in let b = product-following Q (length codes + stop) in omega arith

      -- the least changes before the first gate
      low-zero : get_or lows 0 0 ≡ twices N.gates
      low-zero = (I.at Q).up_to 0 (omega arith) ∙ omega arith

      early : (I.best-so Q).number < budget
      early = let e = (I.best-so Q).early in let w = I.within in let o = I.some in omega arith

      -- the best has no more changes than there are gates that name one wire twice: no choice has fewer
      pub found-floor : (r : Tally) → least ≤ get_or lows 0 0 → r.changes ≡ least → r.floor ≡ least
          → Found N codes wanted budget best r
      found-floor r h c fl =
          let w = I.within in
          let o = I.some in
          let B = I.best-so Q in
          let z = low-zero in
          let n = B.count in
          let t = twices-below N codes wanted (choice N codes B.number) in
          let A = (I.at Q).below in
          let e = B.early in
          found-least Q (omega arith) refl
          (record {
            number = B.number;
            first = record {
              below = min-below budget (choices N codes) B.number early (omega arith);
              least = λ i b. let u = twices-below N codes wanted (choice N codes i) in omega arith;
              first = B.first.first;
            };
            early = B.early;
            kept = B.kept;
            count = B.count;
          }) r c (omega arith) fl

      -- more choices share its places than are left
      pub found-short : (r : Tally) → left < get_or s (length codes + stop - 1) 0 → r.changes ≡ least → r.floor
          ≡ get_or lows 0 0
          → Found N codes wanted budget best r
      found-short r h c fl =
          let e = span-is in
          let w = I.within in
          let o = I.some in
          let b = block_within Q (I.at Q) (omega arith) in
          let B = I.best-so Q in
          let F = least-some budget B.first (omega arith) early in
          let m : min budget (choices N codes) ≡ budget = min-eq_left (omega arith) in
          found_some Q (omega arith) (sym m) (record {
            number = B.number;
            first = F;
            early = B.early;
            kept
                = B.kept;
            count = B.count;
          }) r c (omega arith)
          (fl ∙ low-zero)

      module _ (h : get_or s (length codes + stop - 1) 0 ≤ left) where
        -- no place moved
        pub found-end : (r : Tally) {way' : List ℕ} → Advanced (ways_at codes t.results) (length codes + stop) way way'
            0 → r.changes ≡ least
            → r.floor ≡ least → Found N codes wanted budget best r
        found-end r M c fl =
            let e = exact h in
            let w = I.within in
            let o = I.some in
            let a = at-end Q (I.at Q) M in
            let B = I.best-so Q in
            let m : min budget (choices N codes) ≡ choices N codes = min-eq_right (omega arith) in
            found_all Q (omega arith) (a ∙ sym m) B r c (omega arith) fl

        module _ (p : ℕ) {way' : List ℕ} (M : Advanced (ways_at codes t.results) (length codes + stop) way way' (suc p))
          where
            step : At Q (budget - left + product (drop (length codes + stop) (ways codes N.gates))) (suc p)
                (p - length codes) way' code lows
            step = at_next Q (I.at Q) p M (omega arith)

            -- a place moved, and none are left
            pub found-spent : (r : Tally) → left - get_or s (length codes + stop - 1) 0 ≡ 0 → r.changes ≡ least
                → r.floor
                ≡ get_or lows 0 0
                → Found N codes wanted budget best r
            found-spent r z c fl =
                let e = exact h in
                let w = I.within in
                let o = I.some in
                let b = step.below in
                let B = I.best-so Q in
                let k : budget - left + product (drop (length codes + stop) (ways codes N.gates)) ≡ budget
                = omega arith in
                let m : min budget (choices N codes) ≡ budget = min-eq_left (omega arith) in
                found_some Q (omega arith) (k ∙ sym m) B r c (omega arith) (fl ∙ low-zero)

            number' : budget - left + product (drop (length codes + stop) (ways codes N.gates))
                ≡ budget - (left - get_or s (length codes + stop - 1) 0)
            number' = let e = exact h in let w = I.within in omega arith

            -- the next choice, and the best before it
            pub at_here : At Q (budget - (left - get_or s (length codes + stop - 1) 0)) (suc p) (p - length codes) way'
                code lows
            at_here = rw number' at step

            best-here : Best Q (budget - (left - get_or s (length codes + stop - 1) 0))
                (budget - (left - get_or s (length codes + stop - 1) 0)) best least
            best-here =
                let B = I.best-so Q in
                let n = number' in
                record {
                  number = B.number;
                  first = rw number' at B.first;
                  early = let e = B.early in omega arith;
                  kept
                      = B.kept;
                  count = B.count;
                }

            pub moved_here : 1 ≤ choice_of way' p
            moved_here = at_moved Q (I.at Q) p M

            -- the least changes before its first gate are small
            pub low-here : p < length codes + m → get_or lows (p - length codes) 0 ≤ m
            low-here b =
                let u = at_here.up_to (p - length codes) (omega arith) in
                let g = held-length Q in
                let l = least-most N codes (choice_of way') (p - length codes) (omega arith) in
                omega arith

            -- after it
            module _ {best' code' lows' : List ℕ} {r : Tried} where
              pub at-idle : Idles t codes p least best code lows best' code' lows' r
                  → At Q (budget - (left - get_or s (length codes + stop - 1) 0)) (length codes + r.stop) (r.stop - 1)
                  way' code' lows'
              at-idle T =
                  let n = idle-place t.operands (length codes) p code T.equal in
                  let x = T.stop in
                  let a : suc p ≡ length codes + r.stop = omega arith in
                  let b : p - length codes ≡ r.stop - 1 = omega arith in
                  let c = sym T.code_same in
                  let d = sym T.low_same in
                  rw (a, b, c, d) at at_here

              pub best-idle : Idles t codes p least best code lows best' code' lows' r
                  → Best Q (budget - (left - get_or s (length codes + stop - 1) 0) + product
                  (drop (length codes + r.stop) (ways codes N.gates)))
                  (budget - (left - get_or s (length codes + stop - 1) 0)) best' r.least
              best-idle T =
                  let n = idle-place t.operands (length codes) p code T.equal in
                  let x = T.stop in
                  let a : suc p ≡ length codes + r.stop = omega arith in
                  let b = sym T.best-same in
                  let c = sym T.least-same in
                  rw (a, b, c) at (tried-idle Q at_here best-here T.equal n moved_here)

              pub at_done : Tries t m codes wanted way' p least best code lows best' code' lows' r
                  → At Q (budget - (left - get_or s (length codes + stop - 1) 0)) (length codes + r.stop) (r.stop - 1)
                  way' code' lows'
              at_done T = at_tried Q at_here T.entered

              pub best-done : length code' ≡ W → Tries t m codes wanted way' p least best code lows best' code' lows' r
                  → Best Q (budget - (left - get_or s (length codes + stop - 1) 0) + product
                  (drop (length codes + r.stop) (ways codes N.gates)))
                  (budget - (left - get_or s (length codes + stop - 1) 0)) best' r.least
              best-done lc T =
                  let E = T.entered in
                  let hi = E.walked.high in
                  on_bool (ltb r.stop m)
                  (λ z. let h = ltb-true r.stop m z in
                  let k = T.cut h in
                  let a = sym k.0 in
                  let b = sym k.1 in
                  rw (a, b) at (tried-cut Q at_here E best-here one (omega arith) (E.walked.cut h)))
                  (λ z. let e : r.stop ≡ m = (let g = ltb-false r.stop m z in omega arith) in
                  let cost = cost-is Q at_here E e (lc ∙ sym Q.holds.wires) in
                  on_bool (leb least (cost_of code' lows' m wanted))
                  (λ y. let h = leb-true least (cost_of code' lows' m wanted) y in
                  let k = T.no-fewer e h in
                  let a = sym k.0 in
                  let b = sym k.1 in
                  rw (a, b) at (tried_same Q at_here E e best-here cost h))
                  (λ y. let h = leb-false least (cost_of code' lows' m wanted) y in
                  let k = T.fewer e h in
                  let a = sym k.0 in
                  let b = sym k.1 in
                  rw (a, b) at (tried-fewer Q at_here E e best-here cost h)))

    -- one choice more
    pub standing-tried : (p : ℕ) {way' best' code' lows' : List ℕ} {r : Tried} → get_or s (length codes + stop - 1) 0 ≤
        left
        → Advanced (ways_at codes t.results) (length codes + stop) way way' (suc p)
        → 1 ≤ get_or s (length codes + stop - 1) 0
        → 1 ≤ left - get_or s (length codes + stop - 1) 0 → TriedIs t m codes wanted way' p least best code lows best'
        code' lows' r
        → length best' ≡ W → length code' ≡ W → length lows' ≡ W
        → Standing t m codes wanted W budget way' best' code' lows' r.least r.stop
        (left - get_or s (length codes + stop - 1) 0)
    standing-tried p {way'} {best'} {code'} {lows'} {r} h M some more T lb lc ll =
        let hi = I.high in
        let w = I.within in
        let b = M.within in
        let z = M.size in
        ⊎_elim
        (λ T. let n = idle-place t.operands (length codes) p code T.equal in
        let x = T.stop in
        record {
          high = omega arith;
          some = more;
          within = omega arith;
          spent = λ y. omega arith;
          ways-long = z ∙ I.ways-long;
          bests-long = lb;
          codes-long = lc;
          least_before-long = ll;
          at = λ Q. at-idle Q h p M T;
          best-so = λ Q. best-idle Q h p M T;
        })
        (λ T. record {
          high = T.entered.walked.high;
          some = more;
          within = omega arith;
          spent = λ y. omega arith;
          ways-long = z ∙ I.ways-long;
          bests-long = lb;
          codes-long = lc;
          least_before-long = ll;
          at = λ Q. at_done Q h p M T;
          best-so = λ Q. best-done Q h p M lc T;
        })
        T

-- ---- the first choice was tried

pub standing-first : {t : Tables} {m : ℕ} {codes wanted : List ℕ} {W : ℕ} (budget : ℕ)
    {way₀ u₀ b₀ s₀ way best u b s : List ℕ} {c : ℕ} → 1 ≤ length codes → 1 ≤ budget
    → Begun t m codes wanted way₀ u₀ b₀ s₀ way best u b s c → length way₀ ≡ W → length u₀ ≡ W → length u ≡ W
    → 0 < length b₀ → length b ≡ W
    → Standing t m codes wanted W budget way best u b c m budget
standing-first {t} {m} {codes} {wanted} {W} budget {way₀} {u₀} {b₀} {s₀} {way} {best} {u} {b} {s} {c} one some G lw lu
    lu' lb lb' =
    let wl : length way ≡ W = ap length G.first ∙ length-replicate (length way₀) 0 ∙ lw in
    record {
      high = omega arith;
      some = some;
      within = omega arith;
      spent = λ y. absurd (omega arith);
      ways-long = wl;
      bests-long = ap length G.kept ∙ wl;
      codes-long = lu';
      least_before-long = lb';
      at = λ Q. rw none (at_tried Q (begins Q) G.entered);
      best-so = λ Q. rw none (first-best Q);
    }
  where
    none : budget - budget ≡ 0
    none = omega arith

    begins : {N : Netlist} (Q : Source t m codes wanted W N) → At Q 0 1 (0 - length codes) way u₀
        (set b₀ 0 (twices (gates_of t m)))
    begins {N} Q =
        let w = Q.holds.wires in
        at_first Q (length way₀) G.first (omega arith) (get_or-set_same b₀ 0 (twices (gates_of t m)) 0 lb
        ∙ ap twices (sym Q.holds.gates)) one

    first-best : {N : Netlist} (Q : Source t m codes wanted W N)
        → Best Q (0 + product (drop (length codes + m) (ways codes N.gates))) 0 best c
    first-best {N} Q =
        let o : 0 + product (drop (length codes + m) (ways codes N.gates)) ≡ 1
        = (let x = last_block Q (length codes + m) refl in omega arith) in
        let k = G.kept in
        rw (o, k) (record {
          number = 0;
          first = first_least-is (changes_at N codes wanted) 0;
          early = omega arith;
          kept = (begins Q).same;
          count = G.cost ∙ cost-is Q (begins Q) G.entered refl (lu' ∙ sym Q.holds.wires);
        })
