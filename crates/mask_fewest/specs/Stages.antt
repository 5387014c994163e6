-- The stages of a call: tables that hold a netlist that was read, the choice that is given, and the results in their
-- buffers.
use Rattle.std.specs.Prelude as std
use Rattle.std.specs.Prelude.{ℕ, ◌≤◌, ◌≡◌, List, [], ◌∷◌, length, take}
use Rattle.std.proofs.lemmas.List.Edits.{sets}
use Rattle.netlist.specs.declared.Refusal.{Refusal}
use Rattle.netlist.specs.Netlist.{Netlist}
use Rattle.netlist.specs.Outcome.{Outcome, done, and_then}
use Rattle.netlist.specs.Write.{write_netlist}
use Rattle.masking.specs.Mask.{mask_netlist}
use Rattle.netlist.specs.Services.{Answers, written}
use Rattle.netlist.specs.Table.{Tables, gates_of}
use Rattle.reader.specs.declared.header.Header.{Header}
use Rattle.mask.specs.Fronts.{Fronts, Read}
use Rattle.fewest.specs.Choice.{choice, chosen_gates, chosen_inputs}
use Rattle.fewest.specs.Fewest.{changes_at, given as given_number, floor as floor_of}
use Rattle.fewest.specs.Call.{Result, Room as Rooms}
use Rattle.fewest.specs.declared.search.Tally.{Tally}
use Rattle.fewest.specs.Search.{Source}

-- the tables of a netlist that was read: Mask's, and those of ways, best ways and spans; and the widths of its values,
-- is and os, with room for the width of the mask pair
pub record Room (h : Header) (t : Tables) (is os ws ms ys bs ss : List ℕ) : Type 0 where
  pub fronts : Fronts h t h.gates ws ms
  pub widths : length is ≤ 16
  pub ways : h.wires ≤ length ys
  pub best : h.wires ≤ length bs
  pub spans : h.wires ≤ length ss
  pub netlist : Netlist
  pub read : Read h t h.gates is os netlist

-- .. with codes for its inputs and its outputs
pub record Choosable (h : Header) (t : Tables) (codes wanted ws ms ys bs ss : List ℕ) : Type 0 where
  pub fronts : Fronts h t h.gates ws ms
  pub ways : h.wires ≤ length ys
  pub best : h.wires ≤ length bs
  pub spans : h.wires ≤ length ss
  pub netlist : Netlist
  pub source : Source t h.gates codes wanted h.wires netlist

-- the gate tables t hold the source under the choice that is given, the table ys has its input codes at the front; its
-- changes and the floor
pub record Chose (N : Netlist) (codes wanted : List ℕ) (budget : ℕ) (t : Tables) (count : ℕ) (ys : List ℕ) (r : Tally) :
    Type 0 where
  pub gates : gates_of t count ≡ chosen_gates (choice N codes (given_number N codes wanted budget)) (length codes)
      N.gates
  pub inputs : take (length codes) ys ≡ chosen_inputs codes (choice N codes (given_number N codes wanted budget))
  pub changes : r.changes ≡ changes_at N codes wanted (given_number N codes wanted budget)
  pub floor : r.floor ≡ floor_of N codes wanted budget

-- .. with the widths ns of its input values; and the buffers of the input codes and of the tally have room
pub record Givable (h : Header) (t : Tables) (count : ℕ) (codes wanted ns ws ms is ts : List ℕ) : Type 0 where
  pub fronts : Fronts h t count ws ms
  pub widths : length ns ≤ 16
  pub ins : length codes ≤ h.wires
  pub outs : length wanted ≤ h.wires
  pub inputs : length codes ≤ length is
  pub tally : 2 ≤ length ts

-- the result of a source with these codes and this tally
abbrev pub given : Netlist → List ℕ → List ℕ → Tally → Result
given N codes wanted r = record {
  text = write_netlist (mask_netlist N codes wanted).netlist;
  inputs = codes;
  outputs = (mask_netlist N codes wanted).codes;
  tally = r.changes ∷ r.floor ∷ [];
}

-- the lengths of the four result buffers
abbrev pub room : List ℕ → List ℕ → List ℕ → List ℕ → Rooms
room out is es ts = record { text = length out; inputs = length is; outputs = length es; tally = length ts }

-- a part of a call's outcome
abbrev pub part : (Result → List ℕ) → Outcome Result → Outcome (List ℕ)
part f call = and_then call λ R. done (f R)

-- the answer, and each buffer before and after the call, are those of its outcome
pub record FewestAnswers (call : Outcome Result) (out out' is is' es es' ts ts' : List ℕ) (a : std.Result ℕ Refusal) :
    Type 0 where
  pub text : Answers (part (λ R. R.text) call) out out' a
  pub inputs : is' ≡ sets is 0 (written (part (λ R. R.inputs) call))
  pub outputs : es' ≡ sets es 0 (written (part (λ R. R.outputs) call))
  pub tally : ts' ≡ sets ts 0 (written (part (λ R. R.tally) call))
