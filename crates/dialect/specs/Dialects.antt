-- Both dialects side by side: what differs is the header's lines and the names of gates.
use Rattle.std.specs.Prelude.{ℕ, Bool, true, List, map}
use Rattle.std.proofs.Math.Option.{Option}
use Rattle.netlist.specs.declared.Gate.{Gate}
use Rattle.netlist.specs.declared.Limits.{Limits}
use Rattle.netlist.specs.Netlist.{Netlist}
use Rattle.netlist.specs.Outcome.{Outcome}
use Rattle.netlist.specs.Header.{Header, header}
use Rattle.netlist.specs.Read.{opening, read_netlist}
use Rattle.dialect.specs.OldHeader.{old_header}
use Rattle.dialect.specs.OldRead.{old_line, old_opening, read_old}
use Rattle.dialect.specs.OldWrite.{is_old_gate}
use Rattle.dialect.specs.declared.Dialect.{Dialect}
use Rattle.dialect.specs.declared.Dialect.TheVariants.{Fashion, Old}

-- question 4
abbrev pub header_in : Dialect → List (List (List ℕ)) → Option Header
header_in Fashion ls = header ls
header_in Old ls = old_header ls

-- how many lines a header has
abbrev pub header_lines : Dialect → ℕ
header_lines Fashion = 3
header_lines Old = 2

-- a gate line as question 7 is put to it
abbrev pub line_in : Dialect → List (List ℕ) → List (List ℕ)
line_in Fashion l = l
line_in Old l = old_line l

abbrev pub lines_in : Dialect → List (List (List ℕ)) → List (List (List ℕ))
lines_in Fashion ls = ls
lines_in Old ls = map old_line ls

-- a gate that the dialect has
abbrev pub has_gate : Dialect → Gate → Bool
has_gate Fashion g = true
has_gate Old g = is_old_gate g

-- questions 2 to 6
abbrev pub opening_in : Dialect → Limits → List ℕ → Outcome Header
opening_in Fashion L t = opening L t
opening_in Old L t = old_opening L t

-- questions 2 to 9
abbrev pub read_in : Dialect → Limits → List ℕ → Outcome Netlist
read_in Fashion L t = read_netlist L t
read_in Old L t = read_old L t
