-- What the search by colours compares, and when one run of all gates serves a set of inputs.
use Rattle.std.specs.Prelude.{ℕ, ◌^◌, ◌<◌, List, ◌≡◌, length, get_or}
use Rattle.netlist.specs.Netlist.{Netlist}
use Rattle.masking.specs.Leak.{count_at, base_at}
use Rattle.leak_search.specs.Paint.{colour_of}

-- wire w has its base's count in every setting
abbrev pub Level : Netlist → List ℕ → ℕ → Type 0
Level N codes w = (s : ℕ) → s < 2 ^ length codes → base_at N codes w s ≡ count_at N codes w s

-- the colour of entry a of a list of inputs
abbrev pub colour_at : List ℕ → List ℕ → ℕ → ℕ
colour_at is ps a = colour_of (get_or ps (get_or is a 0) 0)

-- the inputs of a list have colours, each its own
pub record Different (is ps : List ℕ) : Type 0 where
  pub some : (a : ℕ) → a < length is → 0 < colour_at is ps a
  pub apart : (a b : ℕ) → a < length is → b < length is → colour_at is ps a ≡ colour_at is ps b → a ≡ b
