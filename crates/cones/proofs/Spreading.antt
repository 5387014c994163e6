-- Gates, the last first.
use mathlib.Core.Path.{◌≡◌, refl, sym, ap, ◌∙◌}
use mathlib.Core.List.{List, [], ◌∷◌, ◌++◌}
use Prim.Native.Nat.{ℕ, ◌+◌}
use lib.ListN.{length, length-set, length-replicate}
use Rattle.netlist.specs.declared.Gate.{Gate}
use Rattle.netlist.specs.declared.Gate.TheVariants.{Xor, And, Inv, Eqw, Eq}
use Rattle.netlist.specs.Netlist.{Netlist}
use Rattle.netlist.specs.Table.{Tables, gates_of, gate_at}
use Rattle.netlist.proofs.Puts.{gates-more}
use Rattle.cones.specs.Cone.{start, spread, spread_gates, distances}

spread-last : (depth : ℕ) (v : List ℕ) (gs : List Gate) (g : Gate)
    → spread_gates depth v (gs ++ (g ∷ [])) ≡ spread_gates depth (spread depth g v) gs
spread-last depth v [] g = refl
spread-last depth v (h ∷ gs) g = ap (spread depth h) (spread-last depth v gs g)

-- the gates before line i + 1, and those before line i after its gate
pub spread-turn : (depth : ℕ) (t : Tables) (i n : ℕ) (v u : List ℕ) → i + 1 ≡ n → u ≡ spread depth (gate_at t i) v
    → spread_gates depth u (gates_of t i) ≡ spread_gates depth v (gates_of t n)
spread-turn depth t i n v u e p =
    ap (λ (x : List ℕ). spread_gates depth x (gates_of t i)) p ∙ sym (spread-last depth v (gates_of t i) (gate_at t i))
    ∙ ap (spread_gates depth v) (sym (gates-more t i) ∙ ap (gates_of t) e)

-- every wire has an entry
length-spread : (depth : ℕ) (g : Gate) (v : List ℕ) → length (spread depth g v) ≡ length v
length-spread depth (Xor a b c) v = length-set _ b _ ∙ length-set v a _
length-spread depth (And a b c) v = length-set _ b _ ∙ length-set v a _
length-spread depth (Inv a c) v = length-set v a _
length-spread depth (Eqw a c) v = length-set v a _
length-spread depth (Eq k c) v = refl

length-gates : (depth : ℕ) (v : List ℕ) (gs : List Gate) → length (spread_gates depth v gs) ≡ length v
length-gates depth v [] = refl
length-gates depth v (g ∷ gs) = length-spread depth g (spread_gates depth v gs) ∙ length-gates depth v gs

pub length-distances : (N : Netlist) (w depth : ℕ) → length (distances N w depth) ≡ N.wires
unfolding distances
length-distances N w depth = length-gates depth (start N.wires w) N.gates ∙ length-set _ w 1
    ∙ length-replicate N.wires 0

pub distances-law : (N : Netlist) (w depth W : ℕ) (gs : List Gate) (out : List ℕ) → N.wires ≡ W → N.gates ≡ gs
    → out ≡ spread_gates depth (start W w) gs → out ≡ distances N w depth
unfolding distances
distances-law N w depth W gs out e f p = rw (e, f) p
