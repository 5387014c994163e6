-- The cone of a wire: the wires that reach it through gate lines (docs/RULES.md, Many inputs), with their distances.
use Rattle.std.specs.Prelude.{ℕ, ◌+◌, cond, ◌||◌, List, [], ◌∷◌, eqb, ltb, get_or, set, replicate}
use Rattle.netlist.specs.declared.Gate.{Gate}
use Rattle.netlist.specs.declared.Gate.TheVariants.{Xor, And, Inv, Eqw, Eq}
use Rattle.netlist.specs.Netlist.{Netlist}

-- an entry is one more than the distance, which is how many gates stand between; 0 where the wire is not in the cone.
-- Before the last line: the wire itself
abbrev pub start : ℕ → ℕ → List ℕ
start W w = set (replicate W 0) w 1

-- an operand's entry, by that of its gate's result: one more where that is nearer, as far as a depth
abbrev pub nearer : ℕ → ℕ → ℕ → ℕ
nearer depth near e = cond (eqb near 0 || ltb depth near) e (cond (eqb e 0 || ltb (near + 1) e) (near + 1) e)

abbrev pub closer : ℕ → ℕ → ℕ → List ℕ → List ℕ
closer depth near a v = set v a (nearer depth near (get_or v a 0))

-- the entries of a gate's operands
abbrev pub spread : ℕ → Gate → List ℕ → List ℕ
spread depth (Xor a b c) v = closer depth (get_or v c 0) b (closer depth (get_or v c 0) a v)
spread depth (And a b c) v = closer depth (get_or v c 0) b (closer depth (get_or v c 0) a v)
spread depth (Inv a c) v = closer depth (get_or v c 0) a v
spread depth (Eqw a c) v = closer depth (get_or v c 0) a v
spread depth (Eq k c) v = v

-- line by line, the last first
abbrev pub spread_gates : ℕ → List ℕ → List Gate → List ℕ
spread_gates depth v [] = v
spread_gates depth v (g ∷ gs) = spread depth g (spread_gates depth v gs)

-- the entries of all wires
unfoldable pub distances : Netlist → ℕ → ℕ → List ℕ
distances N w depth = spread_gates depth (start N.wires w) N.gates
