-- What the search for a leak answers.
use Rattle.std.specs.Prelude.{ℕ, Option, Some, None}
use Rattle.std.proofs.Math.Option.{none, some}
use Rattle.std.proofs.Math.Option as Math
use Rattle.masking.specs.Leak.{Found}
use Rattle.leak_search.specs.declared.difference.Leak.{Leak}

-- what a leak says
abbrev pub found : Leak ℕ → Found
found p = record { wire = p.wire; at = p.setting; base = p.base; own = p.own }

-- the answer that a leak stands for
abbrev pub found_of : Option (Leak ℕ) → Math.Option Found
found_of None = none
found_of (Some p) = some (found p)
