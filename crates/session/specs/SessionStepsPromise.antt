-- What the steps of a session promise: the answer, and every entry of the lent lists, whatever session and lists are
-- handed in.
use Rattle.std.specs.Prelude.{ℕ, ◌≡◌, Result, Ok, Err, List, []}
use Rattle.netlist.specs.declared.Refusal.{Refusal}
use Rattle.netlist.specs.declared.Sizes.{Sizes}
use Rattle.netlist.specs.Refusal.{number_of}
use Rattle.netlist.specs.Outcome.{Outcome, refused, done}
use Rattle.gates.specs.declared.records.GateRecord.{GateRecord}
use Rattle.gates.specs.declared.records.SourceRecord.{SourceRecord}
use Rattle.session.specs.declared.Session.{Session}
use Rattle.session.specs.declared.Step.{Step}
use Rattle.session.specs.Lists.{Lists, lists_of, session_of, said, left, session_in, open_outcome, add_outcome}

-- the lists as they are left, and the answer, are those of an outcome: a refusal leaves all as it was
abbrev pub StepsTo : Lists → Outcome Lists → List SourceRecord → List GateRecord → Result Session Refusal → Type 0
StepsTo L o source masked (Err q) = (o ≡ refused (number_of q)) × (lists_of L.session source masked ≡ L)
StepsTo L o source masked (Ok s) = o ≡ done (lists_of s source masked)

-- opening, with the list of masked gates before and after: a refusal gives the session without gates, and leaves the
-- list as it was
pub record OpenIs (z : Sizes) (widths codes : List ℕ) (masked masked' : List GateRecord) (a : Step) : Type 0 where
  pub answer : a ≡ said (session_of 0 0) (session_in (open_outcome z widths codes [] masked))
  pub lists : lists_of a.session [] masked' ≡ left (lists_of (session_of 0 0) [] masked)
      (open_outcome z widths codes [] masked)

-- adding a record to a session and its lists: a refusal leaves all as it was
pub record AddIs (z : Sizes) (codes : List ℕ) (L : Lists) (r : GateRecord) (source : List SourceRecord)
    (masked : List GateRecord) (a : Step) : Type 0 where
  pub answer : a ≡ said L.session (session_in (add_outcome z codes L r))
  pub lists : lists_of a.session source masked ≡ left L (add_outcome z codes L r)
