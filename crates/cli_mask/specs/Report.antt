-- The outcome that *mask* reports, and what it prints.
use Rattle.std.specs.Prelude.{Err, Ok, Result, ℕ, ◌≤◌, ◌≡◌, List, [], ◌++◌, length, take}
use Rattle.netlist.specs.declared.Refusal.{Refusal}
use Rattle.netlist.specs.Refusal.{number_of}
use Rattle.netlist.specs.declared.Sizes.TheVariants.{Standard}
use Rattle.netlist.specs.Netlist.{source_limits}
use Rattle.netlist.specs.Outcome.{Outcome, refused, done}
use Rattle.program.specs.Programs.{readable, file_limit}
use Rattle.masking.specs.Calls.{MaskedText, mask_call}
use Rattle.cli_mask.specs.declared.Printed.{Printed}

-- the outcome of the program's call, from the netlist file's bytes and the two lists
abbrev pub outcome : List ℕ → List ℕ → List ℕ → Outcome MaskedText
outcome netlist codes wanted = readable netlist (mask_call (source_limits Standard) [] netlist codes wanted file_limit
    (source_limits Standard).wires)

-- the outcome that an answer stands for, with the buffer of the text and the output codes
abbrev pub outcome_of : List ℕ → List ℕ → Result ℕ Refusal → Outcome MaskedText
outcome_of text codes (Ok n) = done record { text = take n text; codes = codes }
outcome_of text codes (Err q) = refused (number_of q)

-- the text and the k output codes of an answer lie in their buffers
abbrev pub Counted : List ℕ → List ℕ → ℕ → Result ℕ Refusal → Type 0
Counted text out_codes k a = (n : ℕ) → a ≡ Ok n → (n ≤ length text) × (k ≤ length out_codes)

-- an answer, the text's buffer, and k output codes in theirs, are a call's outcome
pub record Answered (call : Outcome MaskedText) (text out_codes : List ℕ) (k : ℕ) (a : Result ℕ Refusal) : Type 0 where
  pub outcome : outcome_of text (take k out_codes) a ≡ call
  pub counted : Counted text out_codes k a

-- what is printed of a line and of the text after it
pub record Prints (l t : List ℕ) (p : Printed) (bytes : List ℕ) : Type 0 where
  pub line : p.line ≤ length l
  pub text : p.text ≤ length t
  pub same : take p.line l ++ take p.text t ≡ bytes
