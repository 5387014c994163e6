-- The seven rows of the masked AND: the bits that they make, the counts of these bits, and the gates that they become.
use Prim.Native.Nat.{ℕ, zero, suc, ◌+◌, ◌<◌}
use mathlib.Core.Path.{◌≡◌, refl, ap, ◌∙◌}
use mathlib.Core.Bool.{Bool, true, false, cond, not, ◌&&◌, ◌||◌}
use mathlib.Core.List.{List, [], ◌∷◌, ◌++◌, map}
use native.Mathlib.Omega.{arith}
use lib.Dec.{T, eqb, ltb, eqb→eq, ltb→lt}
use lib.ListN.{length, get_or, length-append}
use Rattle.netlist.specs.declared.Gate.{Gate}
use Rattle.netlist.specs.declared.Gate.TheVariants.{Xor, And}
use Rattle.netlist.specs.Netlist.{result}
use Rattle.netlist.specs.Eval.{differs, made}
use Rattle.masking.specs.Mask.{is_code, Row, rows, row_gates, and_twin}
use Rattle.masking.specs.Leak.{mask_of, count_of}
use Rattle.masking.specs.AndBits.{row_bit, row_bits, operand_bits}
use Rattle.netlist.specs.Lists.{below}
use Rattle.netlist.proofs.Tests.{both, All, empty, each, all_head, all_tail, all_map, all_append, all-at}
use Rattle.netlist.proofs.EachNumber.{every_bit, every_bit-at, every4, every4-at, below_at, same, same-eq}
use Rattle.masking.proofs.CodeLaws.{every_two-at}
use Rattle.netlist.proofs.Models.{Models}
use Rattle.netlist.proofs.Order.{Ordered, end, step, two-below, AllWires}

-- s1 to s7
unfoldable pub step_bits : ℕ → ℕ → Bool → Bool → Bool → Bool → List Bool
step_bits e f s t m0 m1 = row_bits rows (operand_bits e f s t m0 m1)

-- s7 is the product, under the code of the AND's twin
abbrev and_code : ℕ → ℕ → ℕ
and_code e f = (and_twin 0 (record { wire = 0; code = e }) (record { wire = 0; code = f })).code

and_test : ℕ → ℕ → Bool → Bool → Bool → Bool → Bool
and_test e f s t m0 m1 = same (get_or (step_bits e f s t m0 m1) 6 false)
    (differs (s && t) (mask_of m0 m1 (and_code e f)))

pub and-law : (e f : ℕ) → T (is_code e) → T (is_code f) → T (not (eqb e f)) → (s t m0 m1 : Bool)
    → get_or (step_bits e f s t m0 m1) 6 false ≡ differs (s && t) (mask_of m0 m1 (and_code e f))
unfolding and_test step_bits
and-law e f c d n s t m0 m1 = same-eq _ _ (every4-at (and_test e f)
    (every_two-at (λ e f. every4 (and_test e f)) tt e f c d n) s t m0 m1)

-- known result M4, for any two different codes: the counts of s1 to s7, whatever the operands' bits
abbrev pub step_counts : List ℕ
step_counts = 1 ∷ 1 ∷ 1 ∷ 2 ∷ 1 ∷ 2 ∷ 2 ∷ []

count_test : ℕ → ℕ → Bool → Bool → ℕ → Bool
count_test e f s t j = eqb (count_of (λ m0 m1. get_or (step_bits e f s t m0 m1) j false)) (get_or step_counts j 0)

pub and-count : (e f : ℕ) → T (is_code e) → T (is_code f) → T (not (eqb e f)) → (s t : Bool) (j : ℕ) → j < 7
    → count_of (λ m0 m1. get_or (step_bits e f s t m0 m1) j false) ≡ get_or step_counts j 0
unfolding count_test step_bits
and-count e f c d n s t j h =
    let te = every_two-at (λ e f. every_bit λ s. every_bit λ t. below 7 (count_test e f s t)) tt e f c d n in
    let ts = every_bit-at (λ s. every_bit λ t. below 7 (count_test e f s t)) te s in
    let tt' = every_bit-at (λ t. below 7 (count_test e f s t)) ts t in
    eqb→eq _ _ (below_at 7 (count_test e f s t) tt' j h)

-- rows that read only places before them
abbrev rows_fit : List Row → ℕ → Bool
rows_fit [] k = true
rows_fit (r ∷ rs) k = ltb r.first k && ltb r.second k && rows_fit rs (suc k)

record RowFits (r : Row) (rs : List Row) (k : ℕ) : Type 0 where
  one : r.first < k
  two : r.second < k
  rest : T (rows_fit rs (suc k))

row_fits : (r : Row) (rs : List Row) (k : ℕ) → T (rows_fit (r ∷ rs) k) → RowFits r rs k
row_fits r rs k t =
    let p = both (ltb r.first k && ltb r.second k) (rows_fit rs (suc k)) t in
    let q = both (ltb r.first k) (ltb r.second k) p.0 in
    record { one = ltb→lt _ _ q.0; two = ltb→lt _ _ q.1; rest = p.1 }

-- one place more
fit-more : (r : Row) (rs : List Row) (ps : List ℕ) (c : ℕ) → RowFits r rs (length ps)
    → T (rows_fit rs (length (ps ++ (c ∷ []))))
fit-more r rs ps c F = let len : length (ps ++ (c ∷ [])) ≡ suc (length ps) = rw length-append (omega arith)
    in rw len F.rest

map_more : (u : ℕ → Bool) (ps : List ℕ) (c : ℕ) → map u (ps ++ (c ∷ [])) ≡ map u ps ++ (u c ∷ [])
map_more u [] c = refl
map_more u (p ∷ ps) c = ap (λ l. u p ∷ l) (map_more u ps c)

map_at : (u : ℕ → Bool) (ps : List ℕ) (i : ℕ) → i < length ps → u (get_or ps i 0) ≡ get_or (map u ps) i false
map_at u [] i h = absurd (omega arith)
map_at u (p ∷ ps) zero h = refl
map_at u (p ∷ ps) (suc i) h = map_at u ps i (omega arith)

-- a bit that satisfies a row's gate is what the row makes
row_made : (u : ℕ → Bool) (o : Bool) (a b c : ℕ) → u (result (cond o (And a b c) (Xor a b c)))
    ≡ made u (cond o (And a b c) (Xor a b c))
    → u c ≡ cond o (u a && u b) (differs (u a) (u b))
row_made u true a b c h = h
row_made u false a b c h = h

row-bit : (u : ℕ → Bool) (r : Row) (rs : List Row) (ps : List ℕ) (c : ℕ) → RowFits r rs (length ps)
    → Models u (row_gates (r ∷ rs) ps c)
    → u c ≡ row_bit r (map u ps)
row-bit u r rs ps c F m =
    rw (map_at u ps r.first F.one, map_at u ps r.second F.two)
    at (row_made u r.is_and (get_or ps r.first 0) (get_or ps r.second 0) c (all_head m))

-- bits that satisfy the rows' gates are what the rows make
pub walk_rows : (u : ℕ → Bool) (rs : List Row) (ps : List ℕ) (c : ℕ) → T (rows_fit rs (length ps))
    → Models u (row_gates rs ps c)
    → (j : ℕ) → j < length rs → u (c + j) ≡ get_or (row_bits rs (map u ps)) j false
walk_rows u [] ps c t m j h = absurd (omega arith)
walk_rows u (r ∷ rs) ps c t m zero h = let z : c + 0 ≡ c = omega arith
    in rw z (row-bit u r rs ps c (row_fits r rs (length ps) t) m)
walk_rows u (r ∷ rs) ps c t m (suc j) h =
    let F = row_fits r rs (length ps) t in
    let z : c + suc j ≡ c + 1 + j = omega arith in
    rw z
    (walk_rows u rs (ps ++ (c ∷ [])) (c + 1) (fit-more r rs ps c F) (all_tail m) j (omega arith)
    ∙ ap (λ vs. get_or (row_bits rs vs) j false) (map_more u ps c ∙ ap (λ b. map u ps ++ (b ∷ []))
    (row-bit u r rs ps c F m)))

row-wire : (P : ℕ → Type 0) (o : Bool) (a b c : ℕ) → P c → P (result (cond o (And a b c) (Xor a b c)))
row-wire P true a b c p = p
row-wire P false a b c p = p

-- what holds of the wires from c on holds of the rows' gates
pub rows-wires : (P : ℕ → Type 0) (rs : List Row) (ps : List ℕ) (c : ℕ) → ((j : ℕ) → j < length rs → P (c + j))
    → AllWires P (row_gates rs ps c)
rows-wires P [] ps c h = empty
rows-wires P (r ∷ rs) ps c h =
    let z : c + 0 ≡ c = omega arith in
    let p : P c = rw z at (h 0 (omega arith)) in
    each (row-wire P r.is_and (get_or ps r.first 0) (get_or ps r.second 0) c p)
    (rows-wires P rs (ps ++ (c ∷ [])) (c + 1) (λ j l. let y : c + 1 + j ≡ c + suc j = omega arith
    in rw y (h (suc j) (omega arith))))

row-ordered : (o : Bool) {a b c d : ℕ} {gs : List Gate} → a < c → b < c → Ordered (c + 1) gs d
    → Ordered c (cond o (And a b c) (Xor a b c) ∷ gs) d
row-ordered true {a} {b} {c} p q h = step refl (two-below a b c p q) h
row-ordered false {a} {b} {c} p q h = step refl (two-below a b c p q) h

-- the rows' gates are in order where their places are below them
pub rows-ordered : (rs : List Row) (ps : List ℕ) (c : ℕ) → T (rows_fit rs (length ps)) → All (λ p. p < c) ps
    → Ordered c (row_gates rs ps c) (c + length rs)
rows-ordered [] ps c t h = let z : c + 0 ≡ c = omega arith in rw z end
rows-ordered (r ∷ rs) ps c t h =
    let F = row_fits r rs (length ps) t in
    let len : c + 1 + length rs ≡ c + suc (length rs) = omega arith in
    let more : All (λ p. p < c + 1) (ps ++ (c ∷ [])) = all_append (all_map (λ p l. omega arith) h)
    (each (omega arith) empty) in
    row-ordered r.is_and (all-at h 0 r.first F.one) (all-at h 0 r.second F.two)
    (rw len at (rows-ordered rs (ps ++ (c ∷ [])) (c + 1) (fit-more r rs ps c F) more))
