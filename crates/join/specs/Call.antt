-- The outcome of a call that joins two texts (docs/RULES.md, Joining): questions 1 to 11 of each text, 25, 5 and 14.
use Rattle.std.specs.Prelude.{ℕ, ◌-◌, Bool, ◌&&◌, not, List, eqb, leb, length}
use Rattle.netlist.specs.declared.Limits.{Limits}
use Rattle.netlist.specs.Lists.{every, same_bytes}
use Rattle.netlist.specs.Netlist.{Netlist, input_bits, output_bits}
use Rattle.netlist.specs.Outcome.{Outcome, done, ask, and_then}
use Rattle.netlist.specs.Read.{read_netlist}
use Rattle.netlist.specs.Write.{write_netlist}
use Rattle.masking.specs.Mask.{is_input_code, is_public}
use Rattle.netlist.specs.Services.{tables_long, list_good, delivered}
use Rattle.masking.specs.Calls.{ends_in_masks}
use Rattle.join.specs.Join.{join}

-- questions 10 and 11 of a netlist, as for Check
abbrev pub block_outcome : List ℕ → Netlist → Outcome Netlist
block_outcome codes N = ask 10 (ends_in_masks N.inputs) (ask 11 (list_good is_input_code (input_bits N - 2) codes)
    (done N))

-- questions 2 to 11 of a text with its input codes
abbrev pub read_block : Limits → List ℕ → List ℕ → Outcome Netlist
read_block L text codes = and_then (read_netlist L text) (block_outcome codes)

-- a code of a bit that is not public
abbrev pub is_secret : ℕ → Bool
is_secret e = not (is_public e)

-- question 25: the first's output codes are one for each output bit, and the second's input codes in number and value;
-- none of these is 0; and the second has at least as many gates as output bits
abbrev pub seam_good : Netlist → List ℕ → Netlist → List ℕ → Bool
seam_good A out_codes B codes =
    eqb (length out_codes) (output_bits A) && same_bytes out_codes codes && every is_secret codes && leb (output_bits B)
    (length B.gates)

-- questions 25, 5 of the joined W, and 14
abbrev pub join_outcome : Limits → List ℕ → List ℕ → ℕ → Netlist → Netlist → Outcome (List ℕ)
join_outcome L out_codes codes room A B =
    ask 25 (seam_good A out_codes B codes)
    (ask 5 (leb (join A B).wires L.wires)
    (delivered room (write_netlist (join A B))))

-- the first text with its input and output codes, the second with its input codes
unfoldable pub join_call : Limits → List ℕ → List ℕ → List ℕ → List ℕ → List ℕ → List ℕ → ℕ → Outcome (List ℕ)
join_call L tables first first_codes first_out_codes second second_codes room =
    ask 1 (tables_long L tables)
    (and_then (read_block L first first_codes) λ A.
    and_then (read_block L second second_codes) λ B.
    join_outcome L first_out_codes second_codes room A B)
