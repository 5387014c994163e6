-- What an accepted text of equations and its result are (docs/RULES.md, Equations: the netlist computes what the
-- equations say).
use Rattle.std.specs.Prelude.{ℕ, ◌≡◌, Bool, List, map, T, length}
use Rattle.netlist.specs.declared.Limits.{Limits}
use Rattle.netlist.specs.declared.Sizes.{Sizes}
use Rattle.netlist.specs.Netlist.{Netlist, source_limits}
use Rattle.netlist.specs.Outcome.{done}
use Rattle.netlist.specs.Read.{read_netlist, WellFormed, Within}
use Rattle.netlist.specs.Write.{write_netlist}
use Rattle.netlist.specs.Eval.{outputs_of}
use Rattle.verilog.specs.Syntax.{Module, Stands}
use Rattle.verilog.specs.Depth.{shallow}
use Rattle.verilog.specs.Rules.{rules_kept}
use Rattle.verilog.specs.Equations.{input_ports, output_ports, Solves, equation_outputs}
use Rattle.verilog.specs.Made.{netlist_made}

-- a solution of the equations
pub record Solution (m : Module) (ins : List Bool) : Type 0 where
  pub bits : List ℕ → Bool
  pub solves : Solves m ins bits

-- the module that a text stands for, and the netlist made of it
pub record Reads (L : Limits) (t : List ℕ) (N : Netlist) : Type 0 where
  pub tree : Module
  pub stands : Stands tree t
  pub rules : T (rules_kept tree)
  pub depth : T (shallow tree)
  pub made : N ≡ netlist_made tree
  pub formed : WellFormed N
  pub within : Within L N
  pub computes : (ins : List Bool) → length ins ≡ length (input_ports tree) → outputs_of N ins
      ≡ equation_outputs tree ins
  -- the outputs are those of every solution of the equations: of bits of names under which each equation holds
  pub solves : (ins : List Bool) (bits : List ℕ → Bool) → Solves tree ins bits
      → outputs_of N ins ≡ map bits (output_ports tree)
  -- and there is one
  pub solution : (ins : List Bool) → length ins ≡ length (input_ports tree) → Solution tree ins

-- a result is the written form of the netlist of its text, and reads back as it
pub record Delivered (s : Sizes) (t result : List ℕ) : Type 0 where
  pub netlist : Netlist
  pub reads : Reads (source_limits s) t netlist
  pub written : result ≡ write_netlist netlist
  pub back : read_netlist (source_limits s) result ≡ done netlist
