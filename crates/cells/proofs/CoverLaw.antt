-- A cell whose table is a cover's gives what the cover says of the bits of its inputs.
use Rattle.std.proofs.Common.{◌≡◌, ℕ, zero, suc, ◌<◌, ◌≤◌, Bool, false, List, [], ◌∷◌, map, take, length, refl, ap, ap₂, sym, ◌∙◌, arith}
use Rattle.std.specs.List.{slice_index}
use Rattle.cells.specs.declared.cover.Cover.{Cover}
use Rattle.cells.specs.Tables.{table_bit}
use Rattle.cells.specs.Covers.{cover_bit}
use Rattle.cells.specs.Computes.{AreSet, input_tables, Computes}
use Rattle.cells.proofs.Settings.{row}

-- what the table is of a cover over so many inputs
abbrev pub TableOf : Cover → ℕ → ℕ → Type 0
TableOf cover table inputs =
    (j : ℕ) → j < 64 → table_bit table j ≡ cover_bit cover (map (λ t. table_bit t j) (take inputs input_tables))

cons : {x y : Bool} {xs ys : List Bool} → x ≡ y → xs ≡ ys → (x ∷ xs) ≡ (y ∷ ys)
cons e f = ap₂ (λ (a : Bool) (b : List Bool). a ∷ b) e f

at_0 : (P : ℕ → Type 0) → (k : ℕ) → k < 0 → P k
at_0 P k l = absurd (omega arith)

at_1 : (P : ℕ → Type 0) → P 0 → (k : ℕ) → k < 1 → P k
at_1 P p0 zero l = p0
at_1 P p0 (suc k) l = absurd (omega arith)

at_2 : (P : ℕ → Type 0) → P 0 → P 1 → (k : ℕ) → k < 2 → P k
at_2 P p0 p1 zero l = p0
at_2 P p0 p1 (suc zero) l = p1
at_2 P p0 p1 (suc (suc k)) l = absurd (omega arith)

at_3 : (P : ℕ → Type 0) → P 0 → P 1 → P 2 → (k : ℕ) → k < 3 → P k
at_3 P p0 p1 p2 zero l = p0
at_3 P p0 p1 p2 (suc zero) l = p1
at_3 P p0 p1 p2 (suc (suc zero)) l = p2
at_3 P p0 p1 p2 (suc (suc (suc k))) l = absurd (omega arith)

at_4 : (P : ℕ → Type 0) → P 0 → P 1 → P 2 → P 3 → (k : ℕ) → k < 4 → P k
at_4 P p0 p1 p2 p3 zero l = p0
at_4 P p0 p1 p2 p3 (suc zero) l = p1
at_4 P p0 p1 p2 p3 (suc (suc zero)) l = p2
at_4 P p0 p1 p2 p3 (suc (suc (suc zero))) l = p3
at_4 P p0 p1 p2 p3 (suc (suc (suc (suc k)))) l = absurd (omega arith)

at_5 : (P : ℕ → Type 0) → P 0 → P 1 → P 2 → P 3 → P 4 → (k : ℕ) → k < 5 → P k
at_5 P p0 p1 p2 p3 p4 zero l = p0
at_5 P p0 p1 p2 p3 p4 (suc zero) l = p1
at_5 P p0 p1 p2 p3 p4 (suc (suc zero)) l = p2
at_5 P p0 p1 p2 p3 p4 (suc (suc (suc zero))) l = p3
at_5 P p0 p1 p2 p3 p4 (suc (suc (suc (suc zero)))) l = p4
at_5 P p0 p1 p2 p3 p4 (suc (suc (suc (suc (suc k))))) l = absurd (omega arith)

at_6 : (P : ℕ → Type 0) → P 0 → P 1 → P 2 → P 3 → P 4 → P 5 → (k : ℕ) → k < 6 → P k
at_6 P p0 p1 p2 p3 p4 p5 zero l = p0
at_6 P p0 p1 p2 p3 p4 p5 (suc zero) l = p1
at_6 P p0 p1 p2 p3 p4 p5 (suc (suc zero)) l = p2
at_6 P p0 p1 p2 p3 p4 p5 (suc (suc (suc zero))) l = p3
at_6 P p0 p1 p2 p3 p4 p5 (suc (suc (suc (suc zero)))) l = p4
at_6 P p0 p1 p2 p3 p4 p5 (suc (suc (suc (suc (suc zero))))) l = p5
at_6 P p0 p1 p2 p3 p4 p5 (suc (suc (suc (suc (suc (suc k)))))) l = absurd (omega arith)

pub cover_law : (u : ℕ → Bool) (cover : Cover) (table out : ℕ) (ws : List ℕ) → length ws ≤ 6 → TableOf cover table (length ws)
    → Computes u ws table out → u out ≡ cover_bit cover (map u ws)
cover_law u cover table out ([]) few says computes =
    let r = row false false false false false false in
    let set : AreSet u r.at ([]) = λ k l six. at_0 (λ k. u (slice_index [] k) ≡ table_bit (slice_index input_tables k) r.at) k l in
    computes r.at r.below set ∙ says r.at r.below ∙ ap (cover_bit cover) refl
cover_law u cover table out (a ∷ []) few says computes =
    let r = row (u a) false false false false false in
    let set : AreSet u r.at (a ∷ []) = λ k l six. at_1 (λ k. u (slice_index (a ∷ []) k) ≡ table_bit (slice_index input_tables k) r.at) (sym r.first) k l in
    computes r.at r.below set ∙ says r.at r.below ∙ ap (cover_bit cover) (cons r.first refl)
cover_law u cover table out (a ∷ b ∷ []) few says computes =
    let r = row (u a) (u b) false false false false in
    let set : AreSet u r.at (a ∷ b ∷ []) = λ k l six. at_2 (λ k. u (slice_index (a ∷ b ∷ []) k) ≡ table_bit (slice_index input_tables k) r.at) (sym r.first) (sym r.second) k l in
    computes r.at r.below set ∙ says r.at r.below ∙ ap (cover_bit cover) (cons r.first (cons r.second refl))
cover_law u cover table out (a ∷ b ∷ c ∷ []) few says computes =
    let r = row (u a) (u b) (u c) false false false in
    let set : AreSet u r.at (a ∷ b ∷ c ∷ []) = λ k l six. at_3 (λ k. u (slice_index (a ∷ b ∷ c ∷ []) k) ≡ table_bit (slice_index input_tables k) r.at) (sym r.first) (sym r.second) (sym r.third) k l in
    computes r.at r.below set ∙ says r.at r.below ∙ ap (cover_bit cover) (cons r.first (cons r.second (cons r.third refl)))
cover_law u cover table out (a ∷ b ∷ c ∷ d ∷ []) few says computes =
    let r = row (u a) (u b) (u c) (u d) false false in
    let set : AreSet u r.at (a ∷ b ∷ c ∷ d ∷ []) = λ k l six. at_4 (λ k. u (slice_index (a ∷ b ∷ c ∷ d ∷ []) k) ≡ table_bit (slice_index input_tables k) r.at) (sym r.first) (sym r.second) (sym r.third) (sym r.fourth) k l in
    computes r.at r.below set ∙ says r.at r.below ∙ ap (cover_bit cover) (cons r.first (cons r.second (cons r.third (cons r.fourth refl))))
cover_law u cover table out (a ∷ b ∷ c ∷ d ∷ e ∷ []) few says computes =
    let r = row (u a) (u b) (u c) (u d) (u e) false in
    let set : AreSet u r.at (a ∷ b ∷ c ∷ d ∷ e ∷ []) = λ k l six. at_5 (λ k. u (slice_index (a ∷ b ∷ c ∷ d ∷ e ∷ []) k) ≡ table_bit (slice_index input_tables k) r.at) (sym r.first) (sym r.second) (sym r.third) (sym r.fourth) (sym r.fifth) k l in
    computes r.at r.below set ∙ says r.at r.below ∙ ap (cover_bit cover) (cons r.first (cons r.second (cons r.third (cons r.fourth (cons r.fifth refl)))))
cover_law u cover table out (a ∷ b ∷ c ∷ d ∷ e ∷ f ∷ []) few says computes =
    let r = row (u a) (u b) (u c) (u d) (u e) (u f) in
    let set : AreSet u r.at (a ∷ b ∷ c ∷ d ∷ e ∷ f ∷ []) = λ k l six. at_6 (λ k. u (slice_index (a ∷ b ∷ c ∷ d ∷ e ∷ f ∷ []) k) ≡ table_bit (slice_index input_tables k) r.at) (sym r.first) (sym r.second) (sym r.third) (sym r.fourth) (sym r.fifth) (sym r.sixth) k l in
    computes r.at r.below set ∙ says r.at r.below ∙ ap (cover_bit cover) (cons r.first (cons r.second (cons r.third (cons r.fourth (cons r.fifth (cons r.sixth refl))))))
cover_law u cover table out (a ∷ b ∷ c ∷ d ∷ e ∷ f ∷ g ∷ ws) few says computes = absurd (omega arith)
