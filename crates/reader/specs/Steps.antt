-- What a step of the reader means: what it says of the lines from a place on, and the place where it stands then.
use Rattle.std.specs.Prelude.{ℕ, Option, Some, None, Result, Ok, Err, ◌<◌, ◌≤◌, ◌≡◌, List, length, drop}
use Rattle.netlist.specs.declared.Gate.{Gate}
use Rattle.netlist.specs.declared.Refusal.{Refusal}
use Rattle.netlist.specs.Refusal.{number_of}
use Rattle.netlist.specs.Text.{word_lines}
use Rattle.netlist.specs.GateReader.{Said, gate, end, no, says}
use Rattle.text.specs.Line.{next_line_of}

-- what a step says
abbrev pub step_said : Result (Option (Gate × ℕ)) Refusal → Said
step_said (Ok (Some (g, to))) = gate g
step_said (Ok None) = end
step_said (Err q) = no (number_of q)

-- the place of the next step
abbrev pub place_after : ℕ → Result (Option (Gate × ℕ)) Refusal → ℕ
place_after at (Ok (Some (g, to))) = to
place_after at (Ok None) = at
place_after at (Err q) = at

-- a gate comes with the place after its line
abbrev pub Passed : List ℕ → ℕ → Result (Option (Gate × ℕ)) Refusal → Type 0
Passed t at (Ok (Some (g, to))) = (drop to t ≡ next_line_of (drop at t)) × (at < to) × (to ≤ length t)
Passed t at (Ok None) = Unit {0}
Passed t at (Err q) = Unit {0}

-- r is what the reader says at a place of t
pub record StepIs (t : List ℕ) (at : ℕ) (r : Result (Option (Gate × ℕ)) Refusal) : Type 0 where
  pub said : step_said r ≡ says (word_lines (drop at t))
  pub passed : Passed t at r
