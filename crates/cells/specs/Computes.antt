-- Gates that compute a table.
use Rattle.std.specs.Prelude.{ℕ, ◌<◌, ◌≡◌, Bool, List, [], ◌∷◌, All, length, slice_index}
use Rattle.netlist.specs.declared.Gate.{Gate}
use Rattle.netlist.specs.Netlist.{result}
use Rattle.netlist.specs.Eval.{made}
use Rattle.cells.specs.Tables.{table_bit}

-- bits of wires with which a gate gives what it makes
abbrev pub Satisfies : (ℕ → Bool) → Gate → Type 0
Satisfies u g = u (result g) ≡ made u g

-- bits of wires with which each gate gives what it makes
abbrev pub Holds : (ℕ → Bool) → List Gate → Type 0
Holds u gs = All (Satisfies u) gs

-- the tables of the inputs of a cell
abbrev pub input_tables : List ℕ
input_tables =
    0xaaaa_aaaa_aaaa_aaaa ∷ 0xcccc_cccc_cccc_cccc ∷ 0xf0f0_f0f0_f0f0_f0f0 ∷ 0xff00_ff00_ff00_ff00
    ∷ 0xffff_0000_ffff_0000 ∷ 0xffff_ffff_0000_0000 ∷ []

-- the wires have the bits that the tables of the inputs say of setting j
abbrev pub AreSet : (ℕ → Bool) → ℕ → List ℕ → Type 0
AreSet u j wires =
    (k : ℕ) → k < length wires → k < 6 → u (slice_index wires k) ≡ table_bit (slice_index input_tables k) j

-- in each setting that the inputs' wires carry, the output's wire carries what the table says
abbrev pub Computes : (ℕ → Bool) → List ℕ → ℕ → ℕ → Type 0
Computes u inputs table output = (j : ℕ) → j < 64 → AreSet u j inputs → u output ≡ table_bit table j
