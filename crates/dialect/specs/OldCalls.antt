-- The outcomes of the two calls, as functions of all that they are handed (docs/RULES.md, Older dialect).
use Rattle.std.specs.Prelude.{ℕ, List}
use Rattle.netlist.specs.declared.Limits.{Limits}
use Rattle.netlist.specs.Netlist.{Netlist}
use Rattle.netlist.specs.Outcome.{Outcome, ask, and_then}
use Rattle.netlist.specs.Read.{read_netlist}
use Rattle.netlist.specs.Services.{tables_long, delivered, rewrite_outcome}
use Rattle.dialect.specs.OldRead.{read_old}
use Rattle.dialect.specs.OldWrite.{has_old_form, write_old}

-- from the older dialect to Fashion: questions 1 to 9, and 14 of the written form
unfoldable pub from_old_call : Limits → List ℕ → List ℕ → ℕ → Outcome (List ℕ)
from_old_call L tables text room = ask 1 (tables_long L tables) (and_then (read_old L text) (rewrite_outcome room))

-- question 15 of a netlist, then 14 of its old written form
abbrev pub to_old_outcome : ℕ → Netlist → Outcome (List ℕ)
to_old_outcome room N = ask 15 (has_old_form N) (delivered room (write_old N))

-- from Fashion to the older dialect: questions 1 to 9, 15 and 14
unfoldable pub to_old_call : Limits → List ℕ → List ℕ → ℕ → Outcome (List ℕ)
to_old_call L tables text room = ask 1 (tables_long L tables) (and_then (read_netlist L text) (to_old_outcome room))
