-- The masked gates of an AND, one by one.
use Prim.Native.Nat.{ℕ, suc, ◌+◌, ◌-◌, ◌≤◌}
use mathlib.Core.Path.{◌≡◌}
use mathlib.Core.Bool.{Bool, true, false, cond}
use mathlib.Core.List.{List, [], ◌∷◌, ◌++◌, map}
use native.Mathlib.Omega.{arith}
use Rattle.netlist.specs.declared.Gate.{Gate}
use Rattle.netlist.specs.declared.Gate.TheVariants.{Xor}
use Rattle.netlist.specs.declared.Twin.{Twin}
use Rattle.masking.specs.Mask.{rows, row_gates, changes, change_gates, and_gates, changed, past, mask_wire, after}
use Rattle.netlist.specs.Eval.{bit}
use Rattle.gates.specs.declared.records.GateRecord.{GateRecord}
use Rattle.gates.specs.Records.{record_of}
use Rattle.mask_rule.specs.Rule.{At}

-- the gates after the mask change, if there is one
at_others : (n c : ℕ) (A B : Twin) (gs : List Gate) (k : ℕ) (r : GateRecord) → bit (changes A B) ≤ k
    → At (map record_of gs) (k - bit (changes A B)) r
    → At (map record_of (change_gates n c A B ++ gs)) k r
at_others n c A B gs k r l h = go (changes A B) l h
  where
    go : (b : Bool) → bit b ≤ k → At (map record_of gs) (k - bit b) r
        → At (map record_of (cond b (Xor B.wire (mask_wire n (after B.code)) c ∷ []) [] ++ gs)) k r
    go true l h m =
        let z : k ≡ suc (k - 1) = omega (arith, l) in
        rw z (h (omega (arith, m)))
    go false l h m = let z : k - 0 ≡ k = omega arith in rw z at (h (omega (arith, m)))

-- the seven steps after the mask change
pub and_at : (n c : ℕ) (A B S : Twin) {f next p q k : ℕ} {r : GateRecord} → f ≡ bit (changes A B) → S ≡ changed c A B
    → next ≡ past c A B → p ≡ mask_wire n
    A.code → q ≡ mask_wire n S.code → f ≤ k
    → At (map record_of (row_gates rows (A.wire ∷ S.wire ∷ p ∷ q ∷ (n + 4) ∷ []) next)) (k - f) r
    → At (map record_of (and_gates n c A B)) k r
and_at n c A B S {f} {next} {p} {q} {k} {r} a b d e g l h =
    at_others n c A B (row_gates rows (A.wire ∷ (changed c A B).wire ∷ mask_wire n A.code ∷ mask_wire n
    (changed c A B).code ∷ (n + 4) ∷ []) (past c A B)) k r
    (omega (arith, a, l))
    (rw (a, d, e, g, b) at h)
