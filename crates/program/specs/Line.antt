-- A tally's line.
use Rattle.std.specs.Prelude.{ℕ, List, [], ◌∷◌, ◌++◌}
use Rattle.netlist.specs.Lists.{ascii}
use Rattle.netlist.specs.Text.{lf}
use Rattle.netlist.specs.Number.{decimal}

-- a group's name, how many of its cases agreed, and how many it has
abbrev pub tally_line : List ℕ → ℕ → ℕ → List ℕ
tally_line name agreed cases = name ++ (ascii ": " ++ (decimal agreed ++ (ascii " of " ++ (decimal cases ++ lf ∷ []))))
