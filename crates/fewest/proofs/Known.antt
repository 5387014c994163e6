-- Calls worked out by hand.
use Prim.Native.Nat.{ℕ, ◌-◌}
use mathlib.Core.Path.{◌≡◌, refl}
use mathlib.Core.List.{List, [], ◌∷◌}
use lib.ListN.{length}
use Rattle.netlist.specs.Lists.{ascii}
use Rattle.netlist.specs.Text.{words, word_lines}
use Rattle.netlist.specs.declared.Sizes.TheVariants.{Standard}
use Rattle.netlist.specs.Netlist.{source_limits}
use Rattle.netlist.specs.Outcome.{Outcome, done, refused}
use Rattle.netlist.specs.GateLine.{gate_line}
use Rattle.netlist.specs.Read.{opening, read_netlist}
use Rattle.netlist.specs.Number.{number, decimal}
use Rattle.netlist.specs.Write.{write_netlist}
use Rattle.masking.specs.Mask.{mask_netlist}
use Rattle.masking.specs.Changes.{mask_changes}
use Rattle.fewest.specs.Call.{Result, fewest_call}

-- an AND, and an XOR of it with its first operand
abbrev source : List ℕ
source = ascii "2 4\n2 1 1\n1 1\n2 1 0 1 2 AND\n2 1 2 0 3 XOR\n"

abbrev call : List ℕ → List ℕ → ℕ → ℕ → Outcome Result
call codes wanted budget room =
    fewest_call (source_limits Standard) (2048 ∷ []) source codes wanted budget
    (record { text = room; inputs = 2; outputs = 1; tally = 2 })

-- input codes 1 and 2, the AND swapped: the AND has code 2, so the XOR costs no change
abbrev whole : List ℕ
whole = ascii "12 16\n3 1 1 2\n1 1\n\n2 1 2 3 4 XOR\n2 1 2 3 5 AND\n2 1 4 5 6 XOR\n2 1 1 0 7 AND\n2 1 1 2 8 AND\n2 1 8 2 9 XOR\n2 1 7 9 10 XOR\n2 1 3 0 11 AND\n2 1 11 6 12 XOR\n2 1 10 12 13 XOR\n2 1 13 0 14 XOR\n1 1 14 15 EQW\n"

-- the second input free: choice 3 of 6 (code 2, swapped) is the first without a change; all tried, or four: the floor
-- is 0 both times
abbrev best : Result
best = record { text = whole; inputs = 1 ∷ 2 ∷ []; outputs = 3 ∷ []; tally = 0 ∷ 0 ∷ [] }

pub known-calls : call (1 ∷ 4 ∷ []) (0 ∷ []) 6 (length whole) ∷ call (1 ∷ 4 ∷ []) (0 ∷ []) 4 (length whole) ∷ call
    (1 ∷ 4 ∷ []) (0 ∷ []) 6 (length whole - 1)
    ∷ call (1 ∷ 4 ∷ []) (0 ∷ []) 0 500 ∷ call (1 ∷ 5 ∷ []) (0 ∷ []) 0 500 ∷ call (1 ∷ 4 ∷ []) (4 ∷ []) 0 500 ∷ []
    ≡ done best ∷ done best ∷ refused 14 ∷ refused 22 ∷ refused 11 ∷ refused 13 ∷ []
unfolding fewest_call read_netlist opening word_lines words gate_line number decimal write_netlist mask_netlist
    mask_changes
known-calls = refl
