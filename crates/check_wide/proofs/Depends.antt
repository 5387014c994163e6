-- A wire's bit depends only on the inputs that reach it.
use Prim.Native.Nat.{ℕ, zero, suc, ◌+◌, ◌-◌, ◌≤◌, ◌<◌}
use mathlib.Core.Path.{◌≡◌, refl, sym, ◌∙◌}
use mathlib.Core.Bool.{Bool, true, false}
use mathlib.Core.List.{List, [], ◌∷◌, ◌++◌}
use native.Mathlib.Omega.{arith}
use lib.Dec.{T, eqb, ltb}
use lib.ListN.{length, get_or, set, replicate, length-append, length-set, length-replicate, get_or-append}
use lib.Seq.{get_or-set_same, get_or-set_other, set_out, get_or-append-add}
use borrow.Author.Tests.{eqb-true, eqb-false, ltb-true, ltb-false}
use Rattle.netlist.specs.declared.Gate.{Gate}
use Rattle.netlist.specs.declared.Gate.TheVariants.{Xor, And, Inv, Eqw, Eq}
use Rattle.netlist.specs.Netlist.{Netlist, result}
use Rattle.netlist.specs.Eval.{made, bits_at, run_gates, wire_bits}
use Rattle.netlist.proofs.Tests.{on_bool, or_left, or_right, true-T}
use Rattle.check_wide.specs.Reach.{touched, mark_gates, reaches}

-- two runs, of which P i says that they agree in input i; m i are the marks that input i makes
module _ (P : ℕ → Type 0) where
  -- they agree on every wire whose inputs they agree in
  abbrev Alike : (ℕ → List Bool) → List Bool → List Bool → Type 0
  Alike m u v = (w : ℕ) → ((i : ℕ) → T (bits_at (m i) w) → P i) → bits_at u w ≡ bits_at v w

  made_alike : (m : ℕ → List Bool) (u v : List Bool) (g : Gate) → Alike m u v
      → ((i : ℕ) → T (touched (bits_at (m i)) g) → P i)
      → made (bits_at u) g ≡ made (bits_at v) g
  made_alike m u v (Xor a b c) h t = cc (
    h a (λ i k. t i (or_left (bits_at (m i) a) (bits_at (m i) b) k)),
    h b (λ i k. t i (or_right (bits_at (m i) a) (bits_at (m i) b) k)),
  )
  made_alike m u v (And a b c) h t = cc (
    h a (λ i k. t i (or_left (bits_at (m i) a) (bits_at (m i) b) k)),
    h b (λ i k. t i (or_right (bits_at (m i) a) (bits_at (m i) b) k)),
  )
  made_alike m u v (Inv a c) h t = cc (h a t)
  made_alike m u v (Eqw a c) h t = cc (h a t)
  made_alike m u v (Eq k c) h t = refl

  -- one line keeps it
  module _ (W : ℕ) (m : ℕ → List Bool) (u v : List Bool) (lm : (i : ℕ) → length (m i) ≡ W) (lu : length u ≡ W)
      (lv : length v ≡ W) where
    set-alike : (c : ℕ) (t : ℕ → Bool) (a b : Bool) → Alike m u v → (((i : ℕ) → T (t i) → P i) → a ≡ b)
        → Alike (λ i. set (m i) c (t i)) (set u c a) (set v c b)
    set-alike c t a b h e w k =
        on_bool (ltb c W)
        (λ y. let l : c < W = ltb-true c W y in
        on_bool (eqb w c)
        (λ q. let z : w ≡ c = eqb-true w c q in
        let k' : (i : ℕ) → T (bits_at (set (m i) c (t i)) c) → P i = rw z at k in
        rw z (get_or-set_same u c a false (omega arith)
        ∙ e (λ i x. k' i (rw (get_or-set_same (m i) c (t i) false (omega (arith, lm i))) x))
        ∙ sym (get_or-set_same v c b false (omega arith))))
        (λ q. let z = eqb-false w c q in
        get_or-set_other u c w a false z ∙ h w (λ i x. k i (rw (get_or-set_other (m i) c w (t i) false z) x))
        ∙ sym (get_or-set_other v c w b false z)))
        (λ y. let l : W ≤ c = ltb-false c W y in
        rw (set_out u c a (omega arith), set_out v c b (omega arith))
        (h w (λ i x. k i (rw (set_out (m i) c (t i) (omega (arith, lm i))) x))))

  -- so do all lines
  run-alike : (W : ℕ) (gs : List Gate) (m : ℕ → List Bool) (u v : List Bool) → ((i : ℕ) → length (m i) ≡ W) → length u
      ≡ W → length v ≡ W
      → Alike m u v → Alike (λ i. mark_gates (m i) gs) (run_gates u gs) (run_gates v gs)
  run-alike W [] m u v lm lu lv h = h
  run-alike W (g ∷ gs) m u v lm lu lv h =
      let c = result g in
      run-alike W gs (λ i. set (m i) c (touched (bits_at (m i)) g)) (set u c (made (bits_at u) g))
      (set v c (made (bits_at v) g))
      (λ i. length-set (m i) c _ ∙ lm i) (length-set u c _ ∙ lu) (length-set v c _ ∙ lv)
      (set-alike W m u v lm lu lv c (λ i. touched (bits_at (m i)) g) (made (bits_at u) g) (made (bits_at v) g) h
      (made_alike m u v g h))

-- an input wire is marked by its own input
own-mark : (W i : ℕ) → i < W → T (bits_at (set (replicate W false) i true) i)
own-mark W i l = true-T _ (get_or-set_same (replicate W false) i true false (rw length-replicate l))

following-inputs : (ins : List Bool) (k w : ℕ) → length ins ≤ w → get_or (ins ++ replicate k false) w false ≡ false
following-inputs ins k w l =
    let e : length ins + (w - length ins) ≡ w = omega arith in
    rw (← e) (get_or-append-add ins (replicate k false) (w - length ins) false ∙ zeros k (w - length ins))
  where
    zeros : (k j : ℕ) → get_or (replicate k false) j false ≡ false
    zeros zero j = refl
    zeros (suc k) zero = refl
    zeros (suc k) (suc j) = zeros k j

-- two lists of input bits that agree in the inputs that reach wire w give it the same bit
pub wire-depends : (N : Netlist) (x y : List Bool) (w : ℕ) → length x ≤ N.wires → length x ≡ length y
    → ((i : ℕ) → T (reaches N i w) → get_or x i false ≡ get_or y i false)
    → bits_at (wire_bits N x) w ≡ bits_at (wire_bits N y) w
unfolding wire_bits reaches
wire-depends N x y w l e h =
    let W = N.wires in
    run-alike (λ i. get_or x i false ≡ get_or y i false) W N.gates (λ i. set (replicate W false) i true)
    (x ++ replicate (W - length x) false) (y ++ replicate (W - length y) false)
    (λ i. length-set (replicate W false) i true ∙ length-replicate W false)
    (simp (length-append, length-replicate) (omega arith)) (simp (length-append, length-replicate) (omega arith)) start
    w h
  where
    start : Alike (λ i. get_or x i false ≡ get_or y i false) (λ i. set (replicate N.wires false) i true)
        (x ++ replicate (N.wires - length x) false) (y ++ replicate (N.wires - length y) false)
    start v k =
        on_bool (ltb v (length x))
        (λ t. let b : v < length x = ltb-true v (length x) t in
        get_or-append x (replicate (N.wires - length x) false) false v b ∙ k v (own-mark N.wires v (omega arith)) ∙ sym
        (get_or-append y (replicate (N.wires - length y) false) false v (omega arith)))
        (λ t. let b : length x ≤ v = ltb-false v (length x) t in
        following-inputs x (N.wires - length x) v b ∙ sym (following-inputs y (N.wires - length y) v (omega arith)))
