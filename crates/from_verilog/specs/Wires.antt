-- The wires of names: entry i of `wires` is that of the i-th name.
use Rattle.std.specs.Prelude.{ℕ, zero, suc, List, get_or, set}
use Rattle.from_verilog.specs.Names.{found}

-- the entry before a place, 0 where there is none
abbrev pub before : ℕ → List ℕ → ℕ
before zero ws = 0
before (suc i) ws = get_or ws i 0

-- the wire of a name, 0 where it has no entry
unfoldable pub wire_of : List ℕ → List ℕ → List ℕ → ℕ → List ℕ → ℕ
wire_of t words wires count w = before (found t words w count) wires

-- the wires after the entry of a name set, where it has one
abbrev pub set_before : ℕ → List ℕ → ℕ → List ℕ
set_before zero ws x = ws
set_before (suc i) ws x = set ws i x

unfoldable pub given : List ℕ → List ℕ → List ℕ → ℕ → List ℕ → ℕ → List ℕ
given t words wires count w x = set_before (found t words w count) wires x
