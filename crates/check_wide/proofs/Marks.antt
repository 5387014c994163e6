-- The inputs that reach a gate's result are those that reach its operands, and an input wire is reached by its own
-- input alone.
use Prim.Native.Nat.{ℕ, zero, suc, ◌+◌, ◌≤◌, ◌<◌}
use mathlib.Core.Path.{◌≡◌, refl, sym, ap, ◌∙◌}
use mathlib.Core.Bool.{Bool, true, false}
use mathlib.Core.List.{List, [], ◌∷◌}
use native.Mathlib.Omega.{arith}
use lib.Dec.{T, eqb}
use lib.ListN.{length, get_or, set, replicate, length-set, length-replicate, get_or-replicate}
use lib.Seq.{get_or-set_same, get_or-set_other}
use borrow.Author.Tests.{eqb-true, eqb-false}
use Rattle.netlist.specs.declared.Gate.{Gate}
use Rattle.netlist.specs.declared.Gate.TheVariants.{Xor, And, Inv, Eqw, Eq}
use Rattle.netlist.specs.Netlist.{Netlist, input_bits, result}
use Rattle.netlist.specs.Eval.{bits_at}
use Rattle.netlist.specs.Read.{operands_given, is_given, gates_good, WellFormed}
use Rattle.netlist.proofs.Tests.{on_bool, both, All, empty, each}
use Rattle.netlist.proofs.GoodGates.{GoodGate, good_gate, fresh-ne, given-input, given-more, given-new}
use Rattle.check_wide.specs.Reach.{touched, mark_gates, reaches, marks}

pub length-marks : (t : ℕ → Bool) (i k : ℕ) → length (marks t i k) ≡ k
length-marks t i zero = refl
length-marks t i (suc k) = ap suc (length-marks t (i + 1) k)

pub marks-at : (t : ℕ → Bool) (i k j : ℕ) → j < k → get_or (marks t i k) j false ≡ t (i + j)
marks-at t i zero j l = absurd (omega arith)
marks-at t i (suc k) zero l = let e : i ≡ i + 0 = omega arith in ap t e
marks-at t i (suc k) (suc j) l = let e : i + 1 + j ≡ i + suc j = omega arith in marks-at t (i + 1) k j (omega arith)
    ∙ ap t e

-- a gate looks at its operands only
touched-same : (has : ℕ → Bool) (u v : ℕ → Bool) (g : Gate) → T (operands_given has g)
    → ((a : ℕ) → T (has a) → u a ≡ v a) → touched u g ≡ touched v g
touched-same has u v (Xor a b c) t h = cc (h a (both (has a) (has b) t).0, h b (both (has a) (has b) t).1)
touched-same has u v (And a b c) t h = cc (h a (both (has a) (has b) t).0, h b (both (has a) (has b) t).1)
touched-same has u v (Inv a c) t h = h a t
touched-same has u v (Eqw a c) t h = h a t
touched-same has u v (Eq k c) t h = refl

-- gates leave the marks of given wires as they are
marks-keep : (n W : ℕ) (rs : List ℕ) (gs : List Gate) (v : List Bool) → T (gates_good n W rs gs) → (w : ℕ)
    → T (is_given n rs w)
    → bits_at (mark_gates v gs) w ≡ bits_at v w
marks-keep n W rs [] v t w h = refl
marks-keep n W rs (g ∷ gs) v t w h =
    let G : GoodGate n W rs g gs = good_gate t in
    let b = touched (bits_at v) g in
    marks-keep n W (result g ∷ rs) gs (set v (result g) b) G.rest w (given-more n rs (result g) w h)
    ∙ get_or-set_other v (result g) w b false (fresh-ne n rs w (result g) h G.low G.fresh)

marks-satisfy : (n W : ℕ) (rs : List ℕ) (gs : List Gate) (v : List Bool) → T (gates_good n W rs gs) → W ≤ length v
    → All (λ g. bits_at (mark_gates v gs) (result g) ≡ touched (bits_at (mark_gates v gs)) g) gs
marks-satisfy n W rs [] v t l = empty
marks-satisfy n W rs (g ∷ gs) v t l =
    let G : GoodGate n W rs g gs = good_gate t in
    let b = touched (bits_at v) g in
    let v' = set v (result g) b in
    let h : result g < W = G.high in
    let l' : W ≤ length v' = rw length-set l in
    each
    (marks-keep n W (result g ∷ rs) gs v' G.rest (result g) (given-new n rs (result g))
    ∙ get_or-set_same v (result g) b false (omega arith)
    ∙ touched-same (is_given n rs) (bits_at v) (bits_at (mark_gates v' gs)) g G.operands
    (λ a p. sym (marks-keep n W rs (g ∷ gs) v t a p)))
    (marks-satisfy n W (result g ∷ rs) gs v' G.rest l')

module _ {N : Netlist} (F : WellFormed N) (i : ℕ) where
  pub reach-gates : All (λ g. reaches N i (result g) ≡ touched (reaches N i) g) N.gates
  unfolding reaches
  reach-gates =
      marks-satisfy (input_bits N) N.wires [] N.gates (set (replicate N.wires false) i true) F.good
      (simp (length-set, length-replicate) (omega arith))

  pub reach-input : i < N.wires → (w : ℕ) → w < input_bits N → reaches N i w ≡ eqb w i
  unfolding reaches
  reach-input l w h =
      marks-keep (input_bits N) N.wires [] N.gates (set (replicate N.wires false) i true) F.good w
      (given-input (input_bits N) [] w h)
      ∙ on_bool (eqb w i)
      (λ e. let z : w ≡ i = eqb-true w i e in
      rw (e, z) (get_or-set_same (replicate N.wires false) i true false (rw length-replicate l)))
      (λ e. rw e (get_or-set_other (replicate N.wires false) i w true false (eqb-false w i e)
      ∙ get_or-replicate N.wires w false false (let f = F.inputs_fit in omega arith)))
