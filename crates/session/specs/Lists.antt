-- A session with its lists as one state, and what each step makes of it, whatever the lists hold.
use Rattle.std.specs.Prelude.{ℕ, ◌+◌, ◌-◌, Bool, ◌&&◌, List, ◌++◌, map, leb, length, get_or, set}
use Rattle.std.proofs.lemmas.List.Edits.{sets}
use Rattle.netlist.specs.declared.Gate.{Gate}
use Rattle.netlist.specs.declared.Sizes.{Sizes}
use Rattle.netlist.specs.Outcome.{Outcome, refused, done, ask, and_then}
use Rattle.masking.specs.Mask.{State, input_twins, emit, result_twin}
use Rattle.gates.specs.declared.records.GateRecord.{GateRecord}
use Rattle.gates.specs.declared.records.SourceRecord.{SourceRecord}
use Rattle.gates.specs.Records.{record_of, source_record, blank_source, twin_in}
use Rattle.session.specs.declared.Session.{Session}
use Rattle.session.specs.declared.Step.{Step}
use Rattle.session.specs.Afresh.{open_gates}
use Rattle.session.specs.Asked.{opening, gate_asked, place_left}

-- the session's numbers, and the lists of source records and of masked gates
pub record Lists : Type 0 where
  pub session : Session
  pub source : List SourceRecord
  pub masked : List GateRecord

abbrev pub lists_of : Session → List SourceRecord → List GateRecord → Lists
lists_of s source masked = record { session = s; source = source; masked = masked }

abbrev pub session_of : ℕ → ℕ → Session
session_of gates masked = record { gates = gates; masked = masked }

abbrev pub step_of : Session → ℕ → Step
step_of s q = record { session = s; refused = q }

-- what an outcome says: the session after the step and 0, or the session as it was and the question
abbrev pub said : Session → Outcome Session → Step
said s (refused q) = step_of s q
said s (done t) = step_of t 0

-- the state in which a gate is masked: the next wire, the inputs' twins by their codes, and the twins in the records
abbrev pub present : List ℕ → Lists → State
present codes L = record {
  next = length codes + (2 + L.session.masked);
  twins = input_twins (length codes + 5) 0 codes ++ map twin_in L.source;
}

-- the masked gates of a gate that is added
abbrev pub steps : List ℕ → Lists → Gate → List Gate
steps codes L g = emit (length codes) (present codes L) g

-- the most masked gates of a session, more than any source within the limits has
abbrev pub most_masked : ℕ
most_masked = 1073741824

-- question 14: the list of masked gates can hold the gate's steps
abbrev pub room_for : List ℕ → Lists → Gate → Bool
room_for codes L g =
    let m = L.session.masked + length (steps codes L g) in
    leb m (length L.masked) && leb m most_masked

-- the questions of adding a record, and its gate
unfoldable pub asked : Sizes → List ℕ → Lists → GateRecord → Outcome Gate
asked z codes L r =
    let next = length codes + L.session.gates in
    ask 24 (place_left z L.session.gates next (length L.source))
    (gate_asked next (room_for codes L) r)

-- a gate is added: its record, with its result's twin and the place of its masked gates, and these
abbrev pub added : List ℕ → Lists → Gate → Lists
added codes L g =
    let s = L.session in
    lists_of (session_of (s.gates + 1) (s.masked + length (steps codes L g)))
    (set L.source s.gates (source_record (record_of g) (result_twin (present codes L) g) s.masked))
    (sets L.masked s.masked (map record_of (steps codes L g)))

-- one gate less: the masked gates end where those of the gate taken off start
abbrev pub shorter : Session → List SourceRecord → Session
shorter s source = session_of (s.gates - 1) (get_or source (s.gates - 1) blank_source).from

-- the questions of taking off, and the session after
unfoldable pub off_asked : Session → List SourceRecord → Outcome Session
off_asked s source = ask 23 (leb 1 s.gates) (done (shorter s source))

-- a session that opens, with a code for each input bit: the opening's masked gates
abbrev pub opened_lists : List ℕ → List SourceRecord → List GateRecord → Lists
opened_lists codes source masked = lists_of (session_of 0 (length (open_gates codes))) source
    (sets masked 0 (map record_of (open_gates codes)))

-- what is left by an outcome: a refusal leaves all as it was
abbrev pub left : {A : Type 0} → A → Outcome A → A
left a (refused q) = a
left a (done b) = b

-- adding, of a session with its lists
abbrev pub add_outcome : Sizes → List ℕ → Lists → GateRecord → Outcome Lists
add_outcome z codes L r = and_then (asked z codes L r) λ g. done (added codes L g)

-- taking off writes nothing
abbrev pub off_outcome : Lists → Outcome Lists
off_outcome L = and_then (off_asked L.session L.source) λ s. done (lists_of s L.source L.masked)

-- opening
abbrev pub open_outcome : Sizes → List ℕ → List ℕ → List SourceRecord → List GateRecord → Outcome Lists
open_outcome z widths codes source masked = and_then (opening z widths codes (length masked)) λ gs. done
    (opened_lists codes source masked)

-- the session of an outcome
abbrev pub session_in : Outcome Lists → Outcome Session
session_in o = and_then o λ L. done L.session
