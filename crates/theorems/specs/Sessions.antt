-- What is said of rows of steps of a session (docs/RULES.md, Sessions).
use Rattle.std.specs.Prelude.{ℕ, ◌+◌, List, [], ◌++◌, map, ◌≡◌, length, take}
use Rattle.netlist.specs.declared.Gate.{Gate}
use Rattle.netlist.specs.declared.Sizes.{Sizes}
use Rattle.netlist.specs.Netlist.{Netlist, input_bits}
use Rattle.netlist.specs.Outcome.{done}
use Rattle.masking.specs.Mask.{out_gates, finish, out_twins, mask_netlist}
use Rattle.gates.specs.declared.records.GateRecord.{GateRecord}
use Rattle.gates.specs.declared.records.SourceRecord.{SourceRecord}
use Rattle.gates.specs.Records.{record_of}
use Rattle.session.specs.Afresh.{afresh}
use Rattle.session.specs.Asked.{opening}
use Rattle.session.specs.Lists.{Lists, opened_lists}
use Rattle.session.specs.Rows.{Holds, Move, presents_all, stepped_all}

-- an opening that is accepted, with the lists that it is handed, and a row of steps after it
module _ (s : Sizes) (widths codes : List ℕ) (source : List SourceRecord) (masked : List GateRecord) (row : List Move)
  where
    abbrev pub Opens : Type 0
    Opens = opening s widths codes (length masked) ≡ done []

    -- the source gates after the row, and the session with its lists
    abbrev pub gates_after : List Gate
    gates_after = presents_all s codes (length source) (length masked) [] row

    abbrev pub lists_after : Lists
    lists_after = stepped_all s codes (opened_lists codes source masked) row

    -- the masked gates of the session are those of masking its source gates afresh
    abbrev pub MaskedAfresh : Type 0
    MaskedAfresh = take lists_after.session.masked lists_after.masked ≡ map record_of (afresh codes gates_after)

-- masked afresh: what Mask gives for the netlist of these gates, whatever is wanted, but for the gates of the outputs
abbrev pub AfreshAsMask : List ℕ → List Gate → Type 0
AfreshAsMask codes gs =
    (N : Netlist) (wanted : List ℕ) → input_bits N ≡ length codes → N.wires ≡ length codes + length gs → N.gates ≡ gs
    → (mask_netlist N codes wanted).netlist.gates
    ≡ afresh codes gs ++ out_gates (input_bits N) (finish N codes).next (out_twins N codes) wanted

pub record RowsMasked (s : Sizes) (widths codes : List ℕ) (source : List SourceRecord) (masked : List GateRecord)
    (row : List Move) : Type 0 where
  -- the session and its lists hold the present source gates, their twins and their masked gates
  pub held : Holds s codes (gates_after s widths codes source masked row) (lists_after s widths codes source masked row)
  pub afresh : MaskedAfresh s widths codes source masked row
  pub as_mask : AfreshAsMask codes (gates_after s widths codes source masked row)

abbrev pub RowsMaskAfresh : Type 0
RowsMaskAfresh =
    (s : Sizes) (widths codes : List ℕ) (source : List SourceRecord) (masked : List GateRecord) (row : List Move)
    → Opens s widths codes source masked row → RowsMasked s widths codes source masked row
