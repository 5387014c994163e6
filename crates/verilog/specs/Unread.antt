-- The texts that question 16 refuses (docs/RULES.md, Equations).
use Rattle.std.specs.Prelude.{ℕ, ◌≤◌, List, T, length}
use Rattle.netlist.specs.declared.Limits.{Limits}
use Rattle.netlist.specs.Services.{tables_long}
use Rattle.verilog.specs.Syntax.{Module, Stands}

-- questions 1 and 2 get a yes, and no reading of the grammar gives the text: it stands for no module
pub record Unread (L : Limits) (tables t : List ℕ) : Type 0 where
  pub long : T (tables_long L tables)
  pub within : length t ≤ L.text
  pub none : (m : Module) → Stands m t → ⊥
