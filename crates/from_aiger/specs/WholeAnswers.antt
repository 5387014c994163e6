-- What the answers on a whole file mean.
use Rattle.std.specs.Prelude.{ℕ, Option, Some, None, ◌+◌, ◌≤◌, ◌≡◌, true, List, [], ◌∷◌, length}
use Rattle.std.proofs.Math.Option.{some}
use Rattle.netlist.specs.declared.Limits.{Limits}
use Rattle.netlist.specs.Netlist.{Netlist}
use Rattle.netlist.specs.Outcome.{Outcome, ask}
use Rattle.netlist.specs.Services.{tables_long}
use Rattle.netlist.specs.Table.{Tables}
use Rattle.aiger.specs.File.{File}
use Rattle.aiger.specs.Lines.{Head, file}
use Rattle.aiger.specs.Rules.{rules_kept}
use Rattle.aiger.specs.Made.{netlist_made}
use Rattle.aiger.specs.Call.{read_aiger}
use Rattle.from_aiger.specs.Places.{Keeps}

-- the lines after a header are those of a file that keeps the rules, and the tables keep the k gates of the netlist
-- made
pub record LinesAt (H : Head) (ls : List (List (List ℕ))) (tabs : Tables) (k : ℕ) : Type 0 where
  pub is : File
  pub lines : file H ls ≡ some is
  pub rules : rules_kept is ≡ true
  pub wires : (netlist_made is).wires ≡ H.inputs + k
  pub inputs : (netlist_made is).inputs ≡ H.inputs ∷ []
  pub outputs : (netlist_made is).outputs ≡ H.outputs ∷ []
  pub count : length (netlist_made is).gates ≡ k
  pub many : H.outputs ≤ k
  pub keeps : Keeps tabs (H.inputs + k) (netlist_made is).gates

abbrev pub LinesIs : Head → List (List (List ℕ)) → Tables → Option ℕ → Type 0
LinesIs H ls tabs (Some k) = LinesAt H ls tabs k
LinesIs H ls tabs None = (F : File) → file H ls ≡ some F → rules_kept F ≡ true → ⊥

-- how many gates an answer tells
abbrev pub gates_made : Option ℕ → ℕ
gates_made (Some k) = k
gates_made None = 0

-- question 1 of tables of these lengths, then 2, 19, 20, 19 and 5
abbrev pub asked_aiger : Limits → List ℕ → List ℕ → Outcome Netlist
asked_aiger L lengths t = ask 1 (tables_long L lengths) (read_aiger L t)
