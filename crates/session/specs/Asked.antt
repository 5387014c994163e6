-- What opening, adding and taking off answer (docs/RULES.md, Sessions). The result is the present list of source gates.
use Rattle.std.specs.Prelude.{ℕ, ◌+◌, ◌-◌, Bool, ◌&&◌, List, [], ◌∷◌, ◌++◌, eqb, leb, ltb, length, take}
use Rattle.netlist.specs.declared.Gate.{Gate}
use Rattle.netlist.specs.declared.Sizes.{Sizes}
use Rattle.netlist.specs.Lists.{every, sum}
use Rattle.netlist.specs.Netlist.{source_limits, result}
use Rattle.netlist.specs.Outcome.{Outcome, done, ask, given, and_then}
use Rattle.netlist.specs.Read.{operands_given}
use Rattle.netlist.specs.Services.{list_good}
use Rattle.masking.specs.Mask.{is_input_code}
use Rattle.gates.specs.declared.records.GateRecord.{GateRecord}
use Rattle.gates.specs.Records.{gate_of}
use Rattle.session.specs.Afresh.{open_gates, afresh}

-- question 4 of the widths of values: one or more, each 1 or more
abbrev pub widths_good : List ℕ → Bool
widths_good widths = leb 1 (length widths) && every (leb 1) widths

-- opening, with the widths of the input values, a code for each input bit and the length of the list of masked gates
unfoldable pub opening : Sizes → List ℕ → List ℕ → ℕ → Outcome (List Gate)
opening z widths codes room =
    ask 4 (widths_good widths)
    (ask 5 (leb (length widths) (source_limits z).inputs && leb (sum widths) (source_limits z).wires)
    (ask 11 (list_good is_input_code (sum widths) codes)
    (ask 14 (leb (length (open_gates codes)) room)
    (done []))))

-- questions 7 to 9 of a record that is to give the next wire
abbrev pub gate_good : ℕ → GateRecord → Outcome Gate
gate_good next r =
    and_then (given 7 (gate_of r)) λ g.
    ask 8 (operands_given (λ w. ltb w next) g)
    (ask 9 (eqb (result g) next)
    (done g))

-- then 14, by whether the masked gates have room
abbrev pub gate_asked : ℕ → (Gate → Bool) → GateRecord → Outcome Gate
gate_asked next roomy r = and_then (gate_good next r) λ g. ask 14 (roomy g) (done g)

-- question 24, with how many gates and wires there are, and the length of the list of records
abbrev pub place_left : Sizes → ℕ → ℕ → ℕ → Bool
place_left z gates next places = ltb gates places && ltb next (source_limits z).wires

-- adding a record to the gates gs, with the lengths of the list of records and of the list of masked gates
unfoldable pub adding : Sizes → List ℕ → ℕ → ℕ → List Gate → GateRecord → Outcome (List Gate)
adding z codes places room gs r =
    let next = length codes + length gs in
    ask 24 (place_left z (length gs) next places)
    (and_then (gate_asked next (λ g. leb (length (afresh codes (gs ++ (g ∷ [])))) room) r) λ g. done (gs ++ (g ∷ [])))

-- taking the last gate off
unfoldable pub taking_off : List Gate → Outcome (List Gate)
taking_off gs = ask 23 (leb 1 (length gs)) (done (take (length gs - 1) gs))
