-- What an accepted file and its result are (docs/RULES.md, AIGER: the netlist computes the file's outputs).
use Rattle.std.specs.Prelude.{ℕ, ◌≡◌, Bool, List, T, eqb, leb, length}
use Rattle.std.proofs.Math.Option.{some}
use Rattle.netlist.specs.declared.Limits.{Limits}
use Rattle.netlist.specs.Netlist.{Netlist}
use Rattle.netlist.specs.Outcome.{done}
use Rattle.netlist.specs.Header.{within_limits}
use Rattle.netlist.specs.Read.{read_netlist, header_of, WellFormed, Within}
use Rattle.netlist.specs.Write.{write_netlist}
use Rattle.netlist.specs.Eval.{outputs_of}
use Rattle.aiger.specs.File.{File}
use Rattle.aiger.specs.Lines.{opens, Head, head, head_good, lines_after, file}
use Rattle.aiger.specs.Rules.{rules_kept}
use Rattle.aiger.specs.Outputs.{file_outputs}
use Rattle.aiger.specs.Made.{netlist_made}

-- what an accepted text stands for: every question got a yes
pub record Stands (L : Limits) (t : List ℕ) : Type 0 where
  pub size : T (leb (length t) L.text)
  pub opening : T (opens t)
  pub header : Head
  pub first : head t ≡ some header
  pub good : T (head_good L header)
  pub latches : T (eqb header.latches 0)
  pub is : File
  pub lines : file header (lines_after t) ≡ some is
  pub rules : T (rules_kept is)
  pub limits : T (within_limits L (header_of (netlist_made is)))

-- its netlist, and what that computes
pub record Reads (L : Limits) (t : List ℕ) (N : Netlist) : Type 0 where
  pub stands : Stands L t
  pub made : N ≡ netlist_made stands.is
  pub formed : WellFormed N
  pub within : Within L N
  pub computes : (ins : List Bool) → length ins ≡ length stands.is.inputs → outputs_of N ins
      ≡ file_outputs stands.is ins

-- a result is the written form of the netlist of its text, and reads back as it
pub record Delivered (L : Limits) (t result : List ℕ) : Type 0 where
  pub netlist : Netlist
  pub reads : Reads L t netlist
  pub written : result ≡ write_netlist netlist
  pub back : read_netlist L result ≡ done netlist
