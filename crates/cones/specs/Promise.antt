-- What the cone of a wire promises of a call.
use Rattle.std.specs.Prelude.{Result, ℕ, List, [], ◌∷◌, ltb, length}
use Rattle.netlist.specs.declared.Limits.{Limits}
use Rattle.netlist.specs.declared.Refusal.{Refusal}
use Rattle.netlist.specs.declared.Sizes.{Sizes}
use Rattle.netlist.specs.Netlist.{Netlist, masked_limits}
use Rattle.netlist.specs.Outcome.{Outcome, ask, and_then}
use Rattle.netlist.specs.Read.{read_netlist}
use Rattle.netlist.specs.Services.{tables_long, delivered, Answers, Cleared}
use Rattle.cones.specs.Cone.{distances}

-- questions 21 and 14 of a netlist
abbrev pub cone_outcome : ℕ → ℕ → ℕ → Netlist → Outcome (List ℕ)
cone_outcome w depth room N = ask 21 (ltb w N.wires) (delivered room (distances N w depth))

-- questions 1 to 9, 21 and 14
unfoldable pub cone_call : Limits → List ℕ → List ℕ → ℕ → ℕ → ℕ → Outcome (List ℕ)
cone_call L tables text w depth room = ask 1 (tables_long L tables)
    (and_then (read_netlist L text) (cone_outcome w depth room))

-- the outcome of a call that is handed its sizes, a text, a wire, a depth, a result buffer, and tables of operands,
-- results and given wires
abbrev pub call : Sizes → List ℕ → ℕ → ℕ → List ℕ → List ℕ → List ℕ → List ℕ → Outcome (List ℕ)
call s text wire depth out o r g = cone_call (masked_limits s) (length o ∷ length r ∷ length g ∷ []) text wire depth
    (length out)

-- the sizes, the text, the wire and the depth, then the result buffer and each table before and after the call
pub record Promise (s : Sizes) (text : List ℕ) (wire depth : ℕ) (out out' o o' r r' g g' : List ℕ)
    (a : Result ℕ Refusal) : Type 0 where
  pub answers : Answers (call s text wire depth out o r g) out out' a
  pub operands : Cleared o o'
  pub results : Cleared r r'
  pub marks : Cleared g g'
