-- The gates of the output bits: they stand in order, and their codes are the wanted ones.
use Prim.Native.Nat.{ℕ, zero, suc, ◌+◌, ◌≤◌, ◌<◌}
use mathlib.Core.Path.{◌≡◌, refl, ap}
use mathlib.Core.Logic.{◌≢◌}
use mathlib.Core.Bool.{false, not}
use mathlib.Core.List.{List, [], ◌∷◌}
use native.Mathlib.Omega.{arith}
use lib.Dec.{T, eqb, lt→ltb}
use borrow.Author.Tests.{eqb-false, ne_eqb}
use lib.ListN.{length, get_or}
use Rattle.netlist.specs.declared.Gate.{Gate}
use Rattle.netlist.specs.declared.Twin.{Twin}
use Rattle.netlist.specs.Lists.{every}
use Rattle.masking.specs.Mask.{is_code, is_wanted, third, mask_wire, out_gate, out_code, out_gates, out_codes}
use Rattle.netlist.proofs.Tests.{both, pair, on_bool, false-T, All, all_head, all_tail, all_map}
use Rattle.masking.proofs.CodeLaws.{wanted-code, third-code}
use Rattle.netlist.proofs.Order.{Ordered, end, step, two-below}
use Rattle.masking.proofs.Placed.{Placed, placed-later, mask_wire-below}

-- a wanted code that is neither 0 nor the present one
pub wanted-other : (e want : ℕ) → eqb want e ≡ false → T (not (eqb e want))
wanted-other e want d = let ne : want ≡ e → ⊥ = eqb-false want e d
    in false-T (eqb e want) (ne_eqb e want (λ q. omega arith))

out-ordered : (n : ℕ) {c d : ℕ} (t : Twin) (want : ℕ) {gs : List Gate} → n + 5 ≤ c → Placed c t → T (is_wanted want)
    → Ordered (c + 1) gs d
    → Ordered c (out_gate n c t want ∷ gs) d
out-ordered n {c} t want r P q o =
    on_bool (eqb want 0)
    (λ z. rw z (step refl (lt→ltb t.wire c P.below) o))
    (λ z. on_bool (eqb want t.code)
    (λ y. rw (z, y) (step refl (lt→ltb t.wire c P.below) o))
    (λ y. let f = third t.code want in
    let m : mask_wire n f < c = mask_wire-below n c f r (third-code t.code want P.code (wanted-code want q z)
    (wanted-other t.code want y)) in
    rw (z, y) (step refl (two-below t.wire (mask_wire n f) c P.below m) o)))

pub outs-ordered : (n c : ℕ) (ts : List Twin) (ws : List ℕ) → n + 5 ≤ c → All (Placed c) ts → length ws ≡ length ts
    → T (every is_wanted ws)
    → Ordered c (out_gates n c ts ws) (c + length ts)
outs-ordered n c [] ws r P l t = let z : c + 0 ≡ c = omega arith in rw z end
outs-ordered n c (x ∷ ts) [] r P l t = absurd (omega arith)
outs-ordered n c (x ∷ ts) (w ∷ ws) r P l t =
    let q = both (is_wanted w) (every is_wanted ws) t in
    let len : c + 1 + length ts ≡ c + suc (length ts) = omega arith in
    out-ordered n x w r (all_head P) q.0
    (rw len at (outs-ordered n (c + 1) ts ws (omega arith) (all_map (λ A p. placed-later (omega arith) p) (all_tail P))
    (omega arith) q.1))

-- one gate and one code for each output bit
pub length-out_gates : (n c : ℕ) (ts : List Twin) (ws : List ℕ) → length ws ≡ length ts → length (out_gates n c ts ws)
    ≡ length ts
length-out_gates n c [] ws l = refl
length-out_gates n c (t ∷ ts) [] l = absurd (omega arith)
length-out_gates n c (t ∷ ts) (w ∷ ws) l = ap suc (length-out_gates n (c + 1) ts ws (omega arith))

pub length-out_codes : (ts : List Twin) (ws : List ℕ) → length ws ≡ length ts → length (out_codes ts ws) ≡ length ts
length-out_codes [] ws l = refl
length-out_codes (t ∷ ts) [] l = absurd (omega arith)
length-out_codes (t ∷ ts) (w ∷ ws) l = ap suc (length-out_codes ts ws (omega arith))

-- each a code, and the wanted one where one is wanted
pub out_code-good : (e want : ℕ) → T (is_code e) → T (is_wanted want) → T (is_code (out_code e want))
out_code-good e want p q = on_bool (eqb want 0) (λ z. rw z p) (λ z. rw z (wanted-code want q z))

pub out_codes-good : {c : ℕ} (ts : List Twin) (ws : List ℕ) → All (Placed c) ts → T (every is_wanted ws)
    → T (every is_code (out_codes ts ws))
out_codes-good [] ws P t = tt
out_codes-good (x ∷ ts) [] P t = tt
out_codes-good (x ∷ ts) (w ∷ ws) P t =
    let q = both (is_wanted w) (every is_wanted ws) t in
    pair (is_code (out_code x.code w)) (every is_code (out_codes ts ws)) (out_code-good x.code w (all_head P).code q.0)
    (out_codes-good ts ws (all_tail P) q.1)

pub out_codes-wanted : (ts : List Twin) (ws : List ℕ) → length ws ≡ length ts → (i : ℕ) → i < length ts
    → get_or ws i 0 ≢ 0
    → get_or (out_codes ts ws) i 0 ≡ get_or ws i 0
out_codes-wanted [] ws l i h ne = absurd (omega arith)
out_codes-wanted (x ∷ ts) [] l i h ne = absurd (omega arith)
out_codes-wanted (x ∷ ts) (w ∷ ws) l zero h ne = rw (ne_eqb w 0 ne) refl
out_codes-wanted (x ∷ ts) (w ∷ ws) l (suc i) h ne = out_codes-wanted ts ws (omega arith) i (omega arith) ne
