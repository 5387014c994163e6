-- After a pass over gates in order, the first record of each gate's result is what those of its operands give.
use mathlib.Core.Path.{◌≡◌, refl, sym, ◌∙◌}
use mathlib.Core.List.{List}
use Prim.Native.Nat.{ℕ, ◌+◌, ◌*◌, ◌≤◌, ◌<◌}
use native.Mathlib.Omega.{arith}
use lib.Dec.{T, ltb, ltb→lt}
use lib.ListN.{length}
use Rattle.std.specs.Prelude.{Some}
use Rattle.netlist.specs.declared.Gate.{Gate}
use Rattle.netlist.specs.declared.Gate.TheVariants.{Xor, And, Inv, Eqw, Eq}
use Rattle.netlist.specs.Netlist.{result}
use Rattle.netlist.specs.Read.{operands_given}
use Rattle.netlist.proofs.Tests.{both, All, empty, each}
use Rattle.netlist.proofs.Order.{Ordered, end, step, ordered-length}
use Rattle.certify_records.specs.declared.Record.{Record}
use Rattle.certify_records.specs.Made.{combined}
use Rattle.certify.proofs.Slots.{Sized}
use Rattle.certify.specs.Step.{State, step_of, parts_for, run_of}
use Rattle.certify.proofs.Frames.{slot, View, view, Framed, framed-same, framed-more, framed-where, framed-step}
use Rattle.certify.proofs.Leads.{Seated, seated-kept, seated-step}

-- tables for so many wires
pub record Fitting (W : ℕ) (s : State) : Type 0 where
  pub marks : length s.marks ≡ W
  pub records : length s.records ≡ 15 * W

-- what a gate of a kind owes of its wires
abbrev pub Owed : View → ℕ → ℕ → ℕ → ℕ → Type 0
Owed v k a b c =
    (x y r : Record) → v.slot_of a ≡ Some x → v.slot_of b ≡ Some y → combined k x y ≡ Some r → Sized r → Seated v c r

-- what each gate owes; of a constant nothing is asked
abbrev pub Model : View → Gate → Type 0
Model v (Xor a b c) = Owed v 1 a b c
Model v (And a b c) = Owed v 2 a b c
Model v (Inv a c) = Owed v 3 a a c
Model v (Eqw a c) = Owed v 4 a a c
Model v (Eq x c) = Unit

model-of : (v : View) (g : Gate) → Owed v (parts_for g).kind (parts_for g).left (parts_for g).right (parts_for g).result
    → Model v g
model-of v (Xor a b c) m = m
model-of v (And a b c) m = m
model-of v (Inv a c) m = m
model-of v (Eqw a c) m = m
model-of v (Eq x c) m = tt

parts-result : (g : Gate) → (parts_for g).result ≡ result g
parts-result (Xor a b c) = refl
parts-result (And a b c) = refl
parts-result (Inv a c) = refl
parts-result (Eqw a c) = refl
parts-result (Eq v c) = refl

parts-below : (c : ℕ) (g : Gate) → 0 < c → T (operands_given (λ w. ltb w c) g) → ((parts_for g).left < c)
    × ((parts_for g).right < c)
parts-below c (Xor a b d) h t = let p = both (ltb a c) (ltb b c) t in (ltb→lt a c p.0, ltb→lt b c p.1)
parts-below c (And a b d) h t = let p = both (ltb a c) (ltb b c) t in (ltb→lt a c p.0, ltb→lt b c p.1)
parts-below c (Inv a d) h t = (ltb→lt a c t, ltb→lt a c t)
parts-below c (Eqw a d) h t = (ltb→lt a c t, ltb→lt a c t)
parts-below c (Eq v d) h t = (h, h)

-- later gates leave the first records of lower wires
pub framed-run : {c d : ℕ} {gs : List Gate} (s : State) → Ordered c gs d → Framed (λ v. v < c) s (run_of s gs)
framed-run s end = framed-same s
framed-run {c} s (step {g = g} {gs = gs} r o p) =
    let e : (parts_for g).result ≡ c = parts-result g ∙ r in
    framed-more (framed-where (λ v h z. omega arith) (framed-step (parts_for g) s))
    (framed-where (λ v h. omega arith) (framed-run (step_of s (parts_for g)) p))

fitting-step : {W : ℕ} {s : State} (g : Gate) → Fitting W s → Fitting W (step_of s (parts_for g))
fitting-step {W} {s} g F =
    let f = framed-step (parts_for g) s in
    record { marks = f.marks ∙ F.marks; records = f.records ∙ F.records }

pub models : {c d : ℕ} (W : ℕ) {gs : List Gate} (s : State) → Ordered c gs d → 0 < c → d ≤ W → W ≤ 268435456
    → Fitting W s
    → All (Model (view (run_of s gs))) gs
models W s end z l few F = empty
models {c} {d} W s (step {g = g} {gs = gs} r o p) z l few F =
    let h = parts_for g in
    let u = step_of s h in
    let e : h.result ≡ c = parts-result g ∙ r in
    let below = parts-below c g z o in
    let f = framed-step h s in
    let k = framed-run u p in
    let len : c + 1 + length gs ≡ d = ordered-length p in
    let marks : length s.marks ≡ W = F.marks in
    let records : length s.records ≡ 15 * W = F.records in
    let low : (v : ℕ) → v < c → slot (run_of u gs) v ≡ slot s v = λ v q. k.slots v (omega arith)
    ∙ f.slots v (λ y. omega arith) in
    each
    (model-of (view (run_of u gs)) g
    (λ x y q ex ey eq S.
    seated-kept (k.slots h.result (omega arith)) (k.lit h.result)
    (seated-step s h (sym (low h.left below.0) ∙ ex) (sym (low h.right below.1) ∙ ey) eq S (omega arith) (omega arith)
    (omega arith))))
    (models W u p (omega arith) l few (fitting-step g F))
