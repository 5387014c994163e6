-- Truth tables: bit j of a table is what a function gives in setting j.
use Rattle.std.specs.Prelude.{ℕ, Bool, nat_eq}
use Rattle.std.specs.Int.{bit_at}

-- what a table says of setting j
unfoldable pub table_bit : ℕ → ℕ → Bool
table_bit table j = nat_eq (bit_at table j) 1
