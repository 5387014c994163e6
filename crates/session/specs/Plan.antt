-- What the questions of a step answer, and the plan of what it writes.
use Rattle.std.specs.Prelude.{ℕ, ◌+◌, ◌≤◌, ◌<◌, ◌≡◌, Result, Ok, Err, List, [], length}
use Rattle.netlist.specs.declared.Gate.{Gate}
use Rattle.netlist.specs.declared.Refusal.{Refusal}
use Rattle.netlist.specs.declared.Sizes.{Sizes}
use Rattle.netlist.specs.declared.Sizes.TheVariants.{Whole}
use Rattle.netlist.specs.Refusal.{number_of}
use Rattle.netlist.specs.Netlist.{source_limits}
use Rattle.netlist.specs.Outcome.{Outcome, refused, done, ask}
use Rattle.masking.specs.Mask.{result_twin}
use Rattle.gates.specs.declared.records.GateRecord.{GateRecord}
use Rattle.gates.specs.Records.{record_of, source_record}
use Rattle.mask_rule.specs.Rule.{steps_of}
use Rattle.session.specs.Afresh.{open_gates}
use Rattle.session.specs.Asked.{opening, gate_good, place_left}
use Rattle.session.specs.Lists.{Lists, present, steps, asked, added}
use Rattle.session.specs.declared.adding.Plan.{Plan}
use Rattle.session.specs.declared.adding.Steps.{Steps}

-- the most input bits of a session: it has no more than wires, and of these the larger of Mask's limits admit so many
abbrev pub most_bits : ℕ
most_bits = (source_limits Whole).wires

-- an outcome is done
pub record Yes {A : Type 0} (o : Outcome A) : Type 0 where
  pub value : A
  pub is : o ≡ done value

-- the answer is the question of a refused outcome
abbrev pub NoIs : {A : Type 0} → Outcome A → Result (Unit {0}) Refusal → Type 0
NoIs o (Err q) = o ≡ refused (number_of q)
NoIs o (Ok u) = Yes o

-- questions 24 and 7 to 9
abbrev pub first_asked : Sizes → ℕ → ℕ → ℕ → GateRecord → Outcome Gate
first_asked z n gates places g = ask 24 (place_left z gates (n + gates) places) (gate_good (n + gates) g)

-- the masked gates of a plan, with n input bits
abbrev pub steps_in : ℕ → Steps → List Gate
steps_in n x = steps_of n x.c.wire x.kind x.a x.b

-- they have places from a place on, in a list of so many, and there are no more input bits than a session has
pub record Places (n : ℕ) (x : Steps) (at long : ℕ) : Type 0 where
  pub count : x.count ≡ length (steps_in n x)
  pub fits : at + x.count ≤ long
  pub inputs : n ≤ most_bits

-- the gate of a record is admitted, and the plan says what it makes of the lists
pub record Admits (z : Sizes) (codes : List ℕ) (L : Lists) (r : GateRecord) (p : Plan) : Type 0 where
  pub gate : Gate
  pub admitted : asked z codes L r ≡ done gate
  pub place : L.session.gates < length L.source
  pub keep : p.keep ≡ source_record (record_of gate) (result_twin (present codes L) gate) L.session.masked
  pub made : steps_in (length codes) p.steps ≡ steps codes L gate
  pub places : Places (length codes) p.steps L.session.masked (length L.masked)
  pub session : p.session ≡ (added codes L gate).session

abbrev pub PlanIs : Sizes → List ℕ → Lists → GateRecord → Result Plan Refusal → Type 0
PlanIs z codes L r (Err q) = asked z codes L r ≡ refused (number_of q)
PlanIs z codes L r (Ok p) = Admits z codes L r p

-- an opening is admitted, with m masked gates
pub record Opens (z : Sizes) (widths codes : List ℕ) (room m : ℕ) : Type 0 where
  pub admitted : opening z widths codes room ≡ done []
  pub count : m ≡ length (open_gates codes)
  pub fits : m ≤ room
  pub few : length codes ≤ most_bits

abbrev pub OpenedIs : Sizes → List ℕ → List ℕ → ℕ → Result ℕ Refusal → Type 0
OpenedIs z widths codes room (Err q) = opening z widths codes room ≡ refused (number_of q)
OpenedIs z widths codes room (Ok m) = Opens z widths codes room m
