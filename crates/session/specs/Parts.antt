-- What the parts of a call say: the questions' answers, a record's entries, the tables filled, and the results.
use Rattle.std.specs.Prelude.{Result, Ok, Err, ℕ, ◌+◌, ◌≤◌, ◌<◌, ◌≡◌, List, length, get_or}
use Rattle.netlist.specs.declared.Refusal.{Refusal}
use Rattle.netlist.specs.declared.Gate.{Gate}
use Rattle.netlist.specs.declared.Sizes.{Sizes}
use Rattle.netlist.specs.Refusal.{number_of}
use Rattle.netlist.specs.Netlist.{Netlist, source_limits}
use Rattle.netlist.specs.Outcome.{Outcome, refused, done}
use Rattle.netlist.specs.Read.{WellFormed}
use Rattle.gates.specs.declared.records.SourceRecord.{SourceRecord}
use Rattle.gates.specs.Records.{gate_in}
use Rattle.gates.specs.declared.Entry.{Entry}
use Rattle.gates.specs.declared.Gates.{Gates}
use Rattle.gates.specs.Gates.{gates_in, WiredGates}
use Rattle.gates.specs.Entry.{Entered}
use Rattle.session.specs.Asked.{gate_good}
use Rattle.session.specs.Plan.{Yes}
use Rattle.session.specs.declared.shown.Shown.{Shown}
use Rattle.session.specs.Shown.{head_asked, record_gates}

-- an admitted session: these widths, so many gates, and a record and an entry of each table for each
pub record ShownIs (z : Sizes) (lengths ins outs : List ℕ) (gates room : ℕ) (s : Shown) : Type 0 where
  pub head : Yes (head_asked (source_limits z) lengths ins outs gates room)
  pub widths : s.widths.now ≡ ins
  pub outputs : s.outputs.now ≡ outs
  pub count : s.header.gates ≡ gates
  pub places : s.header.gates ≤ room
  pub tables : (i : ℕ) → i < length lengths → s.header.wires ≤ get_or lengths i 0

-- the answer to questions 1 and 4 to 6, with tables of these lengths
abbrev pub AskedIs : Sizes → List ℕ → List ℕ → List ℕ → ℕ → ℕ → Result Shown Refusal → Type 0
AskedIs z lengths widths outs gates room (Err e) = head_asked (source_limits z) lengths widths outs gates room
    ≡ refused (number_of e)
AskedIs z lengths widths outs gates room (Ok s) = ShownIs z lengths widths outs gates room s

-- a record's gate is admitted, and these are its entries
pub record GateIs (r : SourceRecord) (next : ℕ) (e : Entry) : Type 0 where
  pub gate : Gate
  pub admitted : gate_good next (gate_in r) ≡ done gate
  pub entered : (W : ℕ) → next < W → Entered W gate e.operands e.results

-- the answer to questions 7 to 9 of a record, and the entries of its gate
abbrev pub RecordIs : SourceRecord → ℕ → Result Entry Refusal → Type 0
RecordIs r next (Err q) = gate_good next (gate_in r) ≡ refused (number_of q)
RecordIs r next (Ok e) = GateIs r next e

-- the gates of records after n input bits, in tables
pub record GatesAt (n : ℕ) (source : List SourceRecord) (g : Gates) : Type 0 where
  pub gates : record_gates n source (length source) ≡ done (gates_in g)
  pub wired : WiredGates g (n + length source)
  pub count : g.count ≡ length source

-- the first no of these records, or their gates in the tables
abbrev pub GatesAre : ℕ → List SourceRecord → Result Gates Refusal → Type 0
GatesAre n source (Err e) = record_gates n source (length source) ≡ refused (number_of e)
GatesAre n source (Ok g) = GatesAt n source g

-- the netlist of an outcome has these gates
pub record NetlistAt (o : Outcome Netlist) (g : Gates) (s : Shown) : Type 0 where
  pub is : Netlist
  pub outcome : o ≡ done is
  pub wires : is.wires ≡ s.header.wires
  pub inputs : is.inputs ≡ s.widths.now
  pub outputs : is.outputs ≡ s.outputs.now
  pub gates : is.gates ≡ gates_in g
  pub formed : WellFormed is
