-- What stands at the front of a buffer.
use Rattle.std.specs.Prelude.{Ok, Result, ℕ, ◌≤◌, ◌≡◌, List, length, take}
use Rattle.netlist.specs.declared.Refusal.{Refusal}
use Rattle.netlist.specs.Outcome.{Outcome}
use Rattle.netlist.specs.Services.{outcome_of}

-- the first r entries of a buffer are these
pub record Front {A : Type 0} (buffer : List A) (r : ℕ) (entries : List A) : Type 0 where
  pub within : r ≤ length buffer
  pub same : take r buffer ≡ entries

-- an answer counts no more entries than its buffer has
abbrev pub Counted : List ℕ → Result ℕ Refusal → Type 0
Counted buffer a = (n : ℕ) → a ≡ Ok n → n ≤ length buffer

-- an answer and its buffer are a call's outcome
pub record Answered (call : Outcome (List ℕ)) (buffer : List ℕ) (a : Result ℕ Refusal) : Type 0 where
  pub outcome : outcome_of buffer a ≡ call
  pub counted : Counted buffer a
