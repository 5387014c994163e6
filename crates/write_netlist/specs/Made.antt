-- The netlist that an outcome gives, in the tables.
use Rattle.std.specs.Prelude.{Result, Ok, Err, ◌≡◌, [], ◌∷◌}
use Rattle.netlist.specs.declared.Refusal.{Refusal}
use Rattle.netlist.specs.Refusal.{number_of}
use Rattle.netlist.specs.Netlist.{Netlist}
use Rattle.netlist.specs.Outcome.{Outcome, refused, done}
use Rattle.netlist.specs.Table.{Tables, gates_of, Wired}
use Rattle.write_netlist.specs.declared.made.NetlistNumbers.{NetlistNumbers}

-- the tables hold the gates of the netlist that an outcome gives
pub record NetlistAt (o : Outcome Netlist) (tabs : Tables) (m : NetlistNumbers) : Type 0 where
  pub is : Netlist
  pub outcome : o ≡ done is
  pub wires : is.wires ≡ m.wires
  pub inputs : is.inputs ≡ m.inputs ∷ []
  pub outputs : is.outputs ≡ m.outputs ∷ []
  pub gates : is.gates ≡ gates_of tabs m.gates
  pub wired : Wired tabs m.wires m.gates

abbrev pub NetlistIs : Outcome Netlist → Tables → Result NetlistNumbers Refusal → Type 0
NetlistIs o tabs (Ok m) = NetlistAt o tabs m
NetlistIs o tabs (Err q) = o ≡ refused (number_of q)
