-- The gates of a module in the tables.
use Rattle.std.specs.Prelude.{ℕ, ◌≡◌, List, T}
use Rattle.netlist.specs.Table.{Tables}
use Rattle.verilog.specs.Syntax.{Module, Stands}
use Rattle.verilog.specs.Rules.{rules_kept}
use Rattle.verilog.specs.Made.{built, netlist_made}
use Rattle.from_verilog.specs.Puts.{put_gates}
use Rattle.from_verilog.specs.declared.rules.Kept.{Kept}
use Rattle.from_verilog.specs.Kept.{KeptAt}

-- the gates of a module that keeps the rules were put into the tables, where `first` is the first copy's wire
pub record GatesPut (t : List ℕ) (size : ℕ) (heads words links st ws : List ℕ) (k : Kept) (first : ℕ)
    (before after : Tables) : Type 0 where
  pub gives : (m : Module) → Stands m t → T (rules_kept m) → KeptAt m t size heads words links st ws k → first
      ≡ (built m).next
      → after ≡ put_gates k.inputs before (netlist_made m).gates
