-- The outcome of the call (docs/RULES.md, AIGER: 19, then 20, then 19 in place of 3 to 9, then 5 of the netlist made).
use Rattle.std.specs.Prelude.{ℕ, List, eqb, leb, length}
use Rattle.netlist.specs.declared.Limits.{Limits}
use Rattle.netlist.specs.Netlist.{Netlist}
use Rattle.netlist.specs.Outcome.{Outcome, done, ask, given, and_then}
use Rattle.netlist.specs.Header.{within_limits}
use Rattle.netlist.specs.Services.{tables_long, rewrite_outcome}
use Rattle.netlist.specs.Read.{header_of}
use Rattle.aiger.specs.File.{File}
use Rattle.aiger.specs.Lines.{opens, Head, head, head_good, lines_after, file}
use Rattle.aiger.specs.Rules.{rules_kept}
use Rattle.aiger.specs.Made.{netlist_made}

-- question 19 of the opening and the header, then 20
abbrev pub head_outcome : Limits → List ℕ → Outcome Head
head_outcome L t =
    ask 19 (opens t)
    (and_then (given 19 (head t)) λ H.
    ask 19 (head_good L H)
    (ask 20 (eqb H.latches 0)
    (done H)))

-- question 19 of the variables, then 5 of the netlist made
abbrev pub file_outcome : Limits → File → Outcome Netlist
file_outcome L F =
    ask 19 (rules_kept F)
    (ask 5 (within_limits L (header_of (netlist_made F)))
    (done (netlist_made F)))

-- question 19 of the lines after the header, and those that follow
abbrev pub lines_read : Limits → Head → List (List (List ℕ)) → Outcome Netlist
lines_read L H ls = and_then (given 19 (file H ls)) (file_outcome L)

abbrev pub lines_outcome : Limits → List ℕ → Head → Outcome Netlist
lines_outcome L t H = lines_read L H (lines_after t)

-- questions 2, 19, 20, 19 and 5: the netlist that an AIGER file gives
unfoldable pub read_aiger : Limits → List ℕ → Outcome Netlist
read_aiger L t = ask 2 (leb (length t) L.text) (and_then (head_outcome L t) (lines_outcome L t))

-- questions 1, those, and 14
unfoldable pub aiger_call : Limits → List ℕ → List ℕ → ℕ → Outcome (List ℕ)
aiger_call L tables text room = ask 1 (tables_long L tables) (and_then (read_aiger L text) (rewrite_outcome room))
