-- The calls of a reader counted from 0: where it stands, and what it says.
use Rattle.std.specs.Prelude.{ℕ, Option, Some, None, Result, Ok, Err, zero, suc, ◌+◌, ◌≤◌, ◌≡◌, List, length, drop}
use Rattle.netlist.specs.declared.Gate.{Gate}
use Rattle.netlist.specs.declared.Refusal.{Refusal}
use Rattle.netlist.specs.declared.Limits.{Limits}
use Rattle.netlist.specs.Netlist.{Netlist}
use Rattle.netlist.specs.Text.{word_lines}
use Rattle.netlist.specs.Outcome.{done}
use Rattle.netlist.specs.Header.{Header}
use Rattle.netlist.specs.Read.{opening, read_netlist}
use Rattle.netlist.specs.GateReader.{Said, gate, end, no, says, reader_says, kth_said}
use Rattle.text.specs.Line.{next_line_of, next_lines_of}
use Rattle.reader.specs.Steps.{step_said, place_after, StepIs}
use Rattle.reader.specs.declared.calls.Call.{Call}

-- what is left of a text after an answer on its first line with words: what stands after a gate's line, and otherwise
-- the same
abbrev pub left_after : Said → List ℕ → List ℕ
left_after (gate g) s = next_line_of s
left_after end s = s
left_after (no q) s = s

-- what is left of the gate lines s before the k-th call
unfoldable pub left_at : ℕ → List ℕ → List ℕ
left_at zero s = s
left_at (suc k) s = left_at k (left_after (says (word_lines s)) s)

-- the reader of t, which opens under the limits L, stands before its k-th call at the place `at`: the only one from
-- which so much is left
pub record AtCall (L : Limits) (t : List ℕ) (k at : ℕ) : Type 0 where
  pub head : Header
  pub opens : opening L t ≡ done head
  pub left : drop at t ≡ left_at k (next_lines_of 3 t)
  pub within : at ≤ length t

-- after a gate the reader stands before its next call
abbrev pub Behind : Limits → List ℕ → ℕ → Result (Option (Gate × ℕ)) Refusal → Type 0
Behind L t k (Ok (Some (g, to))) = AtCall L t (k + 1) to
Behind L t k (Ok None) = Unit {0}
Behind L t k (Err q) = Unit {0}

-- r is the k-th answer of the reader of t
pub record ReaderIs (L : Limits) (t : List ℕ) (k : ℕ) (r : Result (Option (Gate × ℕ)) Refusal) : Type 0 where
  pub said : step_said r ≡ reader_says L t k
  -- of a text that reads as a netlist: its k-th gate, or the end
  pub in_order : (N : Netlist) → read_netlist L t ≡ done N → step_said r ≡ kth_said N.gates k
  -- after the last gate, the end each time; after a no, its number
  pub end_again : step_said r ≡ end → (j : ℕ) → reader_says L t (k + j) ≡ end
  pub no_again : (q : ℕ) → step_said r ≡ no q → (j : ℕ) → reader_says L t (k + j) ≡ no q
  pub following : Behind L t k r

-- ---- what the struct's functions promise

-- s is what the reader at a place says: of the lines from there on; and before its k-th call, the k-th answer
pub record CurrentIs (t : List ℕ) (at : ℕ) (s : Result (Option (Gate × ℕ)) Refusal) : Type 0 where
  pub step : StepIs t at s
  pub call : (L : Limits) (k : ℕ) → AtCall L t k at → ReaderIs L t k s

-- the reader goes from a place to another by the answer s: by the k-th answer from before its k-th call to before the
-- next
pub record AdvanceIs (t : List ℕ) (at : ℕ) (s : Result (Option (Gate × ℕ)) Refusal) (to : ℕ) : Type 0 where
  pub place : to ≡ place_after at s
  pub call : (L : Limits) (k : ℕ) → AtCall L t k at → ReaderIs L t k s → AtCall L t (k + 1) to

-- ---- calls counted

-- c is one call of the reader at a place: what it says there, and the reader then
pub record Called (t : List ℕ) (at : ℕ) (c : Call) : Type 0 where
  pub says : CurrentIs t at c.step
  pub on : AdvanceIs t at c.step c.then.at

-- r is the k-th answer of the reader that stands at the place `from` before its first call
pub record CallIs (t : List ℕ) (from k : ℕ) (r : Result (Option (Gate × ℕ)) Refusal) : Type 0 where
  pub call : (L : Limits) → AtCall L t 0 from → ReaderIs L t k r
