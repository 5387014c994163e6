-- The netlist that a session's records stand for, whatever the lists hold: what the text of such gates would read as.
use Rattle.std.specs.Prelude.{ℕ, zero, suc, ◌+◌, ◌&&◌, List, [], ◌∷◌, ◌++◌, leb, length, get_or}
use Rattle.netlist.specs.declared.Gate.{Gate}
use Rattle.netlist.specs.declared.Limits.{Limits}
use Rattle.netlist.specs.Lists.{sum}
use Rattle.netlist.specs.Netlist.{Netlist}
use Rattle.netlist.specs.Outcome.{Outcome, done, ask, and_then}
use Rattle.netlist.specs.Header.{Header, within_limits}
use Rattle.netlist.specs.Read.{netlist_of}
use Rattle.masking.specs.Calls.{MaskedText, mask_outcome}
use Rattle.netlist.specs.Services.{tables_long, rewrite_outcome}
use Rattle.gates.specs.declared.records.SourceRecord.{SourceRecord}
use Rattle.gates.specs.Records.{blank_source, gate_in}
use Rattle.session.specs.Asked.{widths_good, gate_good}

-- the header of so many gates after input values of these widths; the output values are the last wires
abbrev pub head_of : List ℕ → List ℕ → ℕ → Header
head_of widths outputs gates = record { count = gates; wires = sum widths + gates; inputs = widths; outputs = outputs }

-- question 1 of tables of these lengths, 4 and 5 of the widths, and 6: are there as many records as gates?
abbrev pub head_asked : Limits → List ℕ → List ℕ → List ℕ → ℕ → ℕ → Outcome Header
head_asked L tables widths outputs gates places =
    ask 1 (tables_long L tables)
    (ask 4 (widths_good widths && widths_good outputs)
    (ask 5 (within_limits L (head_of widths outputs gates))
    (ask 6 (leb gates places)
    (done (head_of widths outputs gates)))))

-- questions 7 to 9, record by record: the gates of the first k records, after n input bits
abbrev pub record_gates : ℕ → List SourceRecord → ℕ → Outcome (List Gate)
record_gates n source zero = done []
record_gates n source (suc k) =
    and_then (record_gates n source k) λ gs.
    and_then (gate_good (n + k) (gate_in (get_or source k blank_source))) λ g.
    done (gs ++ (g ∷ []))

-- the netlist of a session with so many gates
abbrev pub netlist_shown : Limits → List ℕ → List ℕ → List ℕ → ℕ → List SourceRecord → Outcome Netlist
netlist_shown L tables widths outputs gates source =
    and_then (head_asked L tables widths outputs gates (length source)) λ H.
    and_then (record_gates (sum widths) source gates) λ gs.
    done (netlist_of H gs)

-- its text: then question 14
unfoldable pub text_call : Limits → List ℕ → List ℕ → List ℕ → ℕ → List SourceRecord → ℕ → Outcome (List ℕ)
text_call L tables widths outputs gates source room = and_then (netlist_shown L tables widths outputs gates source)
    (rewrite_outcome room)

-- its masked text: then questions 11, 13 and 14, as Mask puts them
unfoldable pub masked_call : Limits → List ℕ → List ℕ → List ℕ → ℕ → List SourceRecord → List ℕ → List ℕ → ℕ → ℕ
    → Outcome MaskedText
masked_call L tables widths outputs gates source codes wanted text_room code_room =
    and_then (netlist_shown L tables widths outputs gates source) (mask_outcome codes wanted text_room code_room)
