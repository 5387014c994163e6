-- One choice of the search, part by part.
use Prim.Native.Nat.{ℕ, ◌+◌, ◌-◌, ◌^◌, ◌≤◌, ◌<◌}
use mathlib.Core.Path.{◌≡◌}
use mathlib.Core.Bool.{true, false}
use mathlib.Core.List.{List}
use native.Mathlib.Omega.{arith}
use lib.Dec.{ltb}
use borrow.Author.Tests.{ltb-true, ltb-false}
use lib.ListN.{length, get_or, set, replicate}
use lib.Seq.{get_or-set_same}
use Rattle.netlist.specs.Table.{Tables, gates_of}
use Rattle.netlist.proofs.Tests.{on_bool, clash}
use Rattle.netlist.proofs.Puts.{length-gates}
use Rattle.fewest.specs.Fewest.{twices}
use Rattle.fewest.proofs.Walking.{walked-most}
use Rattle.fewest.proofs.Counting.{twices-most}
use Rattle.fewest.specs.Advance.{ways_at}
use Rattle.fewest.specs.Span.{Spanned}
use Rattle.fewest.specs.Search.{Begun}
use Rattle.fewest.specs.Try.{idle_at, cost_of, Entered}
use Rattle.netlist.specs.declared.Sizes.TheVariants.{Whole}
use Rattle.netlist.specs.Netlist.{small_wires}

-- ---- one choice

pub idle-place : (o : List ℕ) (n place : ℕ) (u : List ℕ) → idle_at o n place u ≡ true → n ≤ place
idle-place o n place u e =
    on_bool (ltb place n)
    (λ z. let f : false ≡ true = rw z at e in absurd (false-true f))
    (λ z. ltb-false place n z)
  where
    false-true : false ≡ true → ⊥
    false-true f = clash (cc)

-- the least changes stay small
pub entered-most : {t : Tables} {count : ℕ} {codes way : List ℕ} {place bound : ℕ} {u₀ b₀ u b : List ℕ} {r : ℕ}
    → Entered t count codes way place bound u₀ b₀ u b r
    → get_or b r 0 ≤ get_or b₀ (place - length codes) 0 + count
entered-most E = walked-most E.walked

-- ---- the first choice

-- there are no more gates that name one wire twice than gates
pub twices-few : (t : Tables) (count : ℕ) → twices (gates_of t count) ≤ count
twices-few t count = let h = twices-most (gates_of t count) in let l = length-gates t count in omega arith

-- the least changes before the first gate, as they are stored
pub low_first : (t : Tables) (count : ℕ) (b : List ℕ) {x : ℕ} → 0 < length b → x ≡ twices (gates_of t count)
    → get_or (set b 0 x) 0 0 ≤ count
low_first t count b {x} h e = let s = get_or-set_same b 0 x 0 h in let f = twices-few t count in omega arith

pub low-room : (n count : ℕ) (b : List ℕ) → get_or b 0 0 ≤ count → count ≤ small_wires Whole
    → get_or b (0 - n) 0 + count < 2 ^ 32
low-room n count b h k = let z : 0 - n ≡ 0 = omega arith in rw z (omega arith)

-- no choice has as many changes as the bound that the first is tried with
pub begun-whole : {t : Tables} {count : ℕ} {codes way u₀ b₀ u b : List ℕ} {r : ℕ} → Entered t count codes way 0
    (2 ^ 32 - 1) u₀ b₀ u b r
    → get_or b₀ 0 0 ≤ count → count ≤ small_wires Whole → r ≡ count
begun-whole {count = count} {codes = codes} {b₀ = b₀} {b = b} {r = r} E h k =
    let z : 0 - length codes ≡ 0 = omega arith in
    let m : get_or b r 0 ≤ get_or b₀ 0 0 + count = rw z at (entered-most E) in
    let t = E.walked.high in
    on_bool (ltb r count)
    (λ e. let c = E.walked.cut (ltb-true r count e) in absurd (omega arith))
    (λ e. let c = ltb-false r count e in omega arith)

pub begun_all : {t : Tables} {count : ℕ} {codes wanted way₀ u₀ b₀ s₀ way best u b s : List ℕ} {x r c : ℕ} → way
    ≡ replicate (length way₀) 0
    → Spanned (ways_at codes t.results) (length codes + count) s₀ s → x ≡ twices (gates_of t count) → r ≡ count
    → Entered t count codes way 0 (2 ^ 32 - 1) u₀ (set b₀ 0 x) u b r → best ≡ way → c ≡ cost_of u b count wanted
    → Begun t count codes wanted way₀ u₀ b₀ s₀ way best u b s c
begun_all f sp tw e E k q = record { first = f; spans = sp; entered = rw (e, tw) at E; kept = k; cost = q }
