-- Assignments of a module, how each is spelled, and what they say of the bits of names.
use Rattle.std.specs.Prelude.{ℕ, ◌+◌, cond, eqb, ◌≡◌, Bool, true, false, not, ◌&&◌, List, [], ◌∷◌, ◌++◌, codes, flat_map, slice_get, string_bytes, String, All, length, get_or, ◌<◌}
use Rattle.std.specs.Option.{option_map_or}
use Rattle.std.specs.declared.alloc.Global.{Global}
use Rattle.netlist.specs.declared.Gate.{Gate}
use Rattle.netlist.specs.declared.Gate.TheVariants.{Xor, And, Inv, Eqw, Eq}
use Rattle.netlist.specs.Netlist.{Netlist, input_bits, result}
use Rattle.netlist.specs.Eval.{differs, bits_at, wire_bits}

-- what is assigned: names stand as they are spelled
pub data Value : Type 0 where
  sum : (left right : List ℕ) → Value
  product : (left right : List ℕ) → Value
  inverse : (source : List ℕ) → Value
  copy : (source : List ℕ) → Value
  low : Value
  high : Value

pub record Assign : Type 0 where
  pub target : List ℕ
  pub value : Value

-- how a value is spelled
abbrev pub value_text : Value → List ℕ
value_text (sum left right) = left ++ (codes " ^ " ++ right)
value_text (product left right) = left ++ (codes " & " ++ right)
value_text (inverse source) = codes "~" ++ source
value_text (copy source) = source
value_text low = codes "1'b0"
value_text high = codes "1'b1"

-- a semicolon and LF
abbrev pub line_end : List ℕ
line_end = 59 ∷ 10 ∷ []

-- how an assignment is spelled: a line of its own
abbrev pub assign_text : Assign → List ℕ
assign_text a = codes "  assign " ++ (a.target ++ (codes " = " ++ (value_text a.value ++ line_end)))

-- the bit of a value, from the bits of names
abbrev pub value_bit : (List ℕ → Bool) → Value → Bool
value_bit bit (sum left right) = differs (bit left) (bit right)
value_bit bit (product left right) = bit left && bit right
value_bit bit (inverse source) = not (bit source)
value_bit bit (copy source) = bit source
value_bit bit low = false
value_bit bit high = true

-- bits of names that an assignment allows
abbrev pub Allows : (List ℕ → Bool) → Assign → Type 0
Allows bit a = bit a.target ≡ value_bit bit a.value

-- a constant: 1, or any other number for 0
abbrev pub constant : ℕ → Value
constant v = cond (eqb v 1) high low

-- the assignment of a gate's wire, where wires are spelled so
abbrev pub assign_of : (ℕ → List ℕ) → Gate → Assign
assign_of spell (Xor a b c) = record { target = spell c; value = sum (spell a) (spell b) }
assign_of spell (And a b c) = record { target = spell c; value = product (spell a) (spell b) }
assign_of spell (Inv a c) = record { target = spell c; value = inverse (spell a) }
assign_of spell (Eqw a c) = record { target = spell c; value = copy (spell a) }
assign_of spell (Eq v c) = record { target = spell c; value = constant v }

-- the lines of gates, in their order
abbrev pub gate_lines : (ℕ → List ℕ) → List Gate → List ℕ
gate_lines spell gs = flat_map (λ g. assign_text (assign_of spell g)) gs

-- the lines of output bits with these names, which are the wires from w on
abbrev pub output_lines : (ℕ → List ℕ) → ℕ → List (List ℕ) → List ℕ
output_lines spell w [] = []
output_lines spell w (t ∷ ts) =
    assign_text (record { target = t; value = copy (spell w) }) ++ output_lines spell (w + 1) ts

-- the spelling of a wire, of a list of spellings
abbrev pub spelling_at : List (String Global) → ℕ → List ℕ
spelling_at names w = option_map_or string_bytes (slice_get names w) []

-- a text is declarations, then the lines of the gates and of the outputs, where wires are spelled in some way
abbrev pub IsModule : List Gate → List ℕ → Type 0
IsModule gs text = (head : List ℕ) × (names : List (String Global)) × (first : ℕ) × (targets : List (List ℕ))
    × (text ≡ head ++ (gate_lines (spelling_at names) gs
    ++ (output_lines (spelling_at names) first targets ++ codes "endmodule\n")))

-- bits of names that the assignments of gates allow
abbrev pub AllowsGates : (List ℕ → Bool) → (ℕ → List ℕ) → List Gate → Type 0
AllowsGates bit spell gs = All (λ g. Allows bit (assign_of spell g)) gs

-- each gate's wire, by its name, has the bit that the netlist computes from these input bits
abbrev pub Computes : (List ℕ → Bool) → (ℕ → List ℕ) → Netlist → List Bool → Type 0
Computes bit spell N ins = All (λ g. bit (spell (result g)) ≡ bits_at (wire_bits N ins) (result g)) N.gates

-- the names of the input wires have these bits
abbrev pub HasInputs : (List ℕ → Bool) → (ℕ → List ℕ) → Netlist → List Bool → Type 0
HasInputs bit spell N ins =
    (length ins ≡ input_bits N) × ((w : ℕ) → w < input_bits N → bit (spell w) ≡ get_or ins w false)
