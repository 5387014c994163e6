-- The first limit that question 5 refuses (docs/RULES.md, Sizes).
use Rattle.std.specs.Prelude.{ℕ, Option, Some, None, cond, leb}
use Rattle.netlist.specs.declared.Limits.{Limits}
use Rattle.netlist.specs.declared.Refusal.TheVariants as Q
use Rattle.reader.specs.declared.header_lines.HeaderNumbers.{HeaderNumbers}
use Rattle.places.specs.declared.fault.Fault.{Fault}
use Rattle.places.specs.declared.fault.Spot.TheVariants.{Word}

-- 2^64 - 1 in place of a larger number
abbrev pub clamped : ℕ → ℕ
clamped n = cond (leb n 18446744073709551615) n 18446744073709551615

-- a number that is larger than it may be, told at a word of a header line, both counted from 0
abbrev pub over : ℕ → ℕ → ℕ → ℕ → Option Fault
over line word have most =
    cond (leb have most) None
    (Some (record { question = Q.Limits; spot = Word line word; have = clamped have; most = most }))

abbrev pub or_else : Option Fault → Option Fault → Option Fault
or_else (Some f) g = Some f
or_else None g = g

-- W, how many input and output values there are, and their bits
abbrev pub first_over : Limits → HeaderNumbers → Option Fault
first_over L h =
    or_else (or_else (or_else (or_else (over 0 1 h.wires L.wires) (over 1 0 h.input_values L.inputs))
    (over 2 0 h.output_values L.outputs))
    (over 1 1 h.input_bits h.wires))
    (over 2 1 h.output_bits h.wires)
