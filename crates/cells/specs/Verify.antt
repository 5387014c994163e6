-- Wires whose tables are known.
use Rattle.std.specs.Prelude.{ℕ, ◌≡◌, Bool, List, All}
use Rattle.cells.specs.declared.verify.Known.{Known}
use Rattle.cells.specs.Tables.{table_bit}

-- a wire has the bit that its table says of setting j
abbrev pub Right : (ℕ → Bool) → ℕ → Known → Type 0
Right u j k = u k.wire ≡ table_bit k.table j

abbrev pub AllRight : (ℕ → Bool) → ℕ → List Known → Type 0
AllRight u j ks = All (Right u j) ks
