-- What an answer to questions 1 to 9 stands for, with lent tables of these lengths.
use Rattle.std.specs.Prelude.{ℕ, Result, Ok, Err, ◌≤◌, ◌≡◌, true, List}
use Rattle.netlist.specs.declared.Limits.{Limits}
use Rattle.netlist.specs.declared.Refusal.{Refusal}
use Rattle.netlist.specs.Refusal.{number_of}
use Rattle.netlist.specs.Netlist.{Netlist}
use Rattle.netlist.specs.Outcome.{refused, done, ask}
use Rattle.netlist.specs.Read.{read_netlist}
use Rattle.netlist.specs.Services.{tables_long}
use Rattle.reader.specs.declared.netlist_tables.NetlistTables.{NetlistTables}
use Rattle.reader.specs.Tables.{HoldsNetlist}

-- the value is the netlist that the text reads as
pub record TakenOf (L : Limits) (t : List ℕ) (n : NetlistTables) : Type 0 where
  pub is : Netlist
  pub read : read_netlist L t ≡ done is
  pub holds : HoldsNetlist n is
  pub wires : n.header.wires ≤ L.wires
  pub gates : n.gates.count ≤ n.header.wires

abbrev pub TakenIs : Limits → List ℕ → List ℕ → Result NetlistTables Refusal → Type 0
TakenIs L lengths t (Ok n) = (tables_long L lengths ≡ true) × TakenOf L t n
TakenIs L lengths t (Err q) = ask 1 (tables_long L lengths) (read_netlist L t) ≡ refused (number_of q)
