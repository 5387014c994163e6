-- One turn of each loop, as the definitions take it.
use mathlib.Core.Path.{◌≡◌, refl, sym, ap, ◌∙◌}
use mathlib.Core.Bool.{Bool, false, cond}
use mathlib.Core.List.{List, [], ◌∷◌, ◌++◌}
use Prim.Native.Nat.{ℕ, suc, ◌+◌, ◌-◌, ◌*◌, ◌<◌, ◌≤◌}
use native.Mathlib.Omega.{arith}
use lib.Dec.{eqb}
use Rattle.netlist.specs.declared.Gate.{Gate}
use Rattle.netlist.specs.declared.Gate.TheVariants.{Xor, And, Inv, Eqw, Eq}
use Rattle.netlist.specs.Netlist.{result}
use Rattle.netlist.specs.Eval.{made}
use Rattle.netlist.specs.Table.{made_of}
use Rattle.netlist.proofs.Tests.{on_bool}
use Rattle.gates.specs.declared.Parts.{Parts}
use Rattle.certify_records.specs.declared.Record.{Record}
use Rattle.certify.specs.Kept.{record_if}
use Rattle.certify.specs.Step.{State, paired, row_more, crossed, pairs_more, settled, leaves_rest, leaves_more, is_leaf}
use Rattle.certify.specs.Step.{leaves_of, step_of, parts_for, run_of}

-- the right operand's records
pub row-next : (j : ℕ) (g : Parts) (x : Record) (s : State) → j < 5 → row_more (5 - j) j g x s
    ≡ row_more (5 - (j + 1)) (j + 1) g x (paired s g x j)
row-next j g x s h = let f : 5 - j ≡ suc (5 - (j + 1)) = omega arith in ap (λ (n : ℕ). row_more n j g x s) f

pub row-end : (j : ℕ) (g : Parts) (x : Record) (s : State) → 5 ≤ j → row_more (5 - j) j g x s ≡ s
row-end j g x s h = let f : 5 - j ≡ 0 = omega arith in ap (λ (n : ℕ). row_more n j g x s) f

-- the left operand's
pub pairs-next : (i : ℕ) (g : Parts) (s : State) → i < 5 → pairs_more (5 - i) i g s ≡ pairs_more (5 - (i + 1)) (i + 1) g
    (crossed s g i 0)
pairs-next i g s h = let f : 5 - i ≡ suc (5 - (i + 1)) = omega arith in ap (λ (n : ℕ). pairs_more n i g s) f

pub pairs-end : (i : ℕ) (g : Parts) (s : State) → 5 ≤ i → pairs_more (5 - i) i g s ≡ s
pairs-end i g s h = let f : 5 - i ≡ 0 = omega arith in ap (λ (n : ℕ). pairs_more n i g s) f

-- the records that may give a leaf
pub leaves-next : (k w : ℕ) (s u : State) (b : Bool) → k < 5 → (u, b) ≡ settled s w k
    → leaves_more (5 - k) k w s ≡ leaves_rest (leaves_more (5 - (k + 1)) (k + 1) w) (u, b)
leaves-next k w s u b h e =
    let f : 5 - k ≡ suc (5 - (k + 1)) = omega arith in
    ap (λ (n : ℕ). leaves_more n k w s) f ∙ sym (ap (leaves_rest (leaves_more (5 - (k + 1)) (k + 1) w)) e)

pub leaves-end : (k w : ℕ) (s : State) → 5 ≤ k → leaves_more (5 - k) k w s ≡ s
leaves-end k w s h = let f : 5 - k ≡ 0 = omega arith in ap (λ (n : ℕ). leaves_more n k w s) f

pub leaves-none : (w : ℕ) (s : State) → is_leaf (record_if s.records (5 * w)) ≡ false → leaves_more 4 1 w s
    ≡ leaves_of s w
leaves-none w s e = sym (ap (λ (b : Bool). cond b s (leaves_more 4 1 w s)) e)

-- one more gate
pub run-more : (s : State) (gs : List Gate) (g : Gate) → run_of s (gs ++ (g ∷ [])) ≡ step_of (run_of s gs) (parts_for g)
run-more s [] g = refl
run-more s (h ∷ gs) g = run-more (step_of s (parts_for h)) gs g

-- a gate's parts make what the gate makes
pub parts-made : (u : ℕ → Bool) (g : Gate) → u (result g) ≡ made u g
    → u (parts_for g).result ≡ made_of (parts_for g).kind (u (parts_for g).left) (u (parts_for g).right)
parts-made u (Xor a b c) e = e
parts-made u (And a b c) e = e
parts-made u (Inv a c) e = e
parts-made u (Eqw a c) e = e
parts-made u (Eq v c) e =
    on_bool (eqb v 1)
    (λ t. e ∙ t ∙ sym (ap (λ (b : Bool). made_of (cond b 6 5) (u 0) (u 0)) t))
    (λ t. e ∙ t ∙ sym (ap (λ (b : Bool). made_of (cond b 6 5) (u 0) (u 0)) t))
