-- The netlist made of a file (docs/RULES.md, AIGER).
use Rattle.std.specs.Prelude.{ℕ, zero, suc, ◌+◌, ◌<◌, List, [], ◌∷◌, ◌++◌, T, length, get_or, set}
use Rattle.netlist.specs.declared.Gate.{Gate}
use Rattle.netlist.specs.declared.Gate.TheVariants.{And, Inv, Eqw, Eq}
use Rattle.netlist.specs.Lists.{member}
use Rattle.netlist.specs.Netlist.{Netlist}
use Rattle.netlist.specs.Eval.{bit}
use Rattle.aiger.specs.File.{Literal, constant, plain, inverse, AndLine, File}
use Rattle.aiger.specs.Outputs.{enter, blank}

-- the gates of an operand, the wire that carries it, and the next wire
pub record Made : Type 0 where
  pub gates : List Gate
  pub wire : ℕ
  pub next : ℕ

-- one gate on the next wire
abbrev pub one_gate : Gate → ℕ → Made
one_gate g c = record { gates = g ∷ []; wire = c; next = c + 1 }

-- an operand, from the wires of variables: an EQ for a constant, an INV for an inverse
abbrev pub operand : (ℕ → ℕ) → Literal → ℕ → Made
operand at (constant b) c = one_gate (Eq (bit b) c) c
operand at (plain v) c = record { gates = []; wire = at v; next = c }
operand at (inverse v) c = one_gate (Inv (at v) c) c

-- the gates of an AND line, the left operand's first
abbrev pub and_made : (ℕ → ℕ) → AndLine → ℕ → Made
and_made at a c =
    let L = operand at a.first c in
    let R = operand at a.second L.next in
    record { gates = L.gates ++ R.gates ++ And L.wire R.wire R.next ∷ []; wire = R.next; next = R.next + 1 }

-- an output: an EQW, an INV or an EQ
abbrev pub out_gate : (ℕ → ℕ) → Literal → ℕ → Gate
out_gate at (constant b) c = Eq (bit b) c
out_gate at (plain v) c = Eqw (at v) c
out_gate at (inverse v) c = Inv (at v) c

-- the wire of each variable
abbrev pub wire_at : List ℕ → ℕ → ℕ
wire_at table v = get_or table v 0

-- the gates of AND lines, the wires of variables after them, and the next wire
pub record Built : Type 0 where
  pub gates : List Gate
  pub table : List ℕ
  pub next : ℕ

abbrev pub following : List Gate → Built → Built
following gs B = record { gates = gs ++ B.gates; table = B.table; next = B.next }

abbrev pub build : List ℕ → ℕ → List AndLine → Built
build table c [] = record { gates = []; table = table; next = c }
build table c (a ∷ rest) =
    let M = and_made (wire_at table) a c in
    following M.gates (build (set table a.left M.wire) M.next rest)

abbrev pub out_gates : (ℕ → ℕ) → ℕ → List Literal → List Gate
out_gates at c [] = []
out_gates at c (l ∷ ls) = out_gate at l c ∷ out_gates at (c + 1) ls

-- n numbers from k on
abbrev pub up_from : ℕ → ℕ → List ℕ
up_from k zero = []
up_from k (suc n) = k ∷ up_from (k + 1) n

-- the inputs are the first wires, in the order of the input lines
abbrev pub built : File → Built
built F = build (enter (blank 0 F) F.inputs (up_from 0 (length F.inputs))) (length F.inputs) F.ands

abbrev pub with_outputs : File → Built → Netlist
with_outputs F B = record {
  wires = B.next + length F.outputs;
  inputs = length F.inputs ∷ [];
  outputs = length F.outputs ∷ [];
  gates = B.gates ++ out_gates (wire_at B.table) B.next F.outputs;
}

unfoldable pub netlist_made : File → Netlist
netlist_made F = with_outputs F (built F)

-- variables that are given have wires below c
abbrev pub Located : (ℕ → ℕ) → ℕ → List ℕ → Type 0
Located at c given = (v : ℕ) → T (member v given) → at v < c
