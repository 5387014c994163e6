-- What the answer on the header means.
use Rattle.std.specs.Prelude.{ℕ, Result, Ok, Err, ◌<◌, ◌≡◌, List, drop, eqb}
use Rattle.netlist.specs.declared.Limits.{Limits}
use Rattle.netlist.specs.Outcome.{Outcome, refused, done, ask}
use Rattle.netlist.specs.declared.Refusal.{Refusal}
use Rattle.netlist.specs.Refusal.{number_of}
use Rattle.text.specs.Line.{after_line}
use Rattle.from_aiger.specs.declared.lines.Lines.{Lines}
use Rattle.aiger.specs.Lines.{Head, head_good}
use Rattle.aiger.specs.Call.{head_outcome}
use Rattle.from_aiger.specs.declared.counts.HeadNumbers.{HeadNumbers}

-- the header that the numbers stand for
abbrev pub head_said : HeadNumbers → Head
head_said h = record { most = h.most; inputs = h.inputs; latches = h.latches; outputs = h.outputs; ands = h.ands }

-- questions 19 and 20 of a header
abbrev pub head_asked : Limits → Head → Outcome (Unit {0})
head_asked L H = ask 19 (head_good L H) (ask 20 (eqb H.latches 0) (done tt))

-- a header that is admitted, with the lines after it
pub record HeadAt (L : Limits) (t : List ℕ) (h : HeadNumbers) (l : Lines) : Type 0 where
  pub outcome : head_outcome L t ≡ done (head_said h)
  pub most : h.most < L.wires
  pub text : l.text.now ≡ t
  pub next : drop l.at t ≡ after_line (drop 4 t)

abbrev pub HeadIs : Limits → List ℕ → Result (HeadNumbers × Lines) Refusal → Type 0
HeadIs L t (Ok (h, l)) = HeadAt L t h l
HeadIs L t (Err q) = head_outcome L t ≡ refused (number_of q)
