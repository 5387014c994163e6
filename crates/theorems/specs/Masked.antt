-- What is said of every text that Mask writes (docs/RULES.md, Masking a source; Leaks; Written form).
use Rattle.std.specs.Prelude.{ℕ, List, ◌≡◌}
use Rattle.netlist.specs.declared.Sizes.{Sizes}
use Rattle.netlist.specs.Netlist.{Netlist, source_limits, masked_limits}
use Rattle.netlist.specs.Outcome.{done}
use Rattle.netlist.specs.Read.{WellFormed, Within, read_netlist}
use Rattle.netlist.specs.Write.{write_netlist}
use Rattle.masking.specs.Mask.{mask_netlist}
use Rattle.masking.specs.Leak.{Clean}
use Rattle.masking.specs.Unmask.{Unmasks}
use Rattle.masking.specs.Calls.{MaskedText, mask_call}

-- an accepted call of Mask, of the source that its text reads as, and its result
pub record Accepted (s : Sizes) (source : Netlist) (codes wanted : List ℕ) (R : MaskedText) : Type 0 where
  pub tables : List ℕ
  pub text : List ℕ
  pub text_room : ℕ
  pub code_room : ℕ
  pub read : read_netlist (source_limits s) text ≡ done source
  pub made : mask_call (source_limits s) tables text codes wanted text_room code_room ≡ done R

-- the masked text reads back as the masked netlist
abbrev pub MaskedReadsBack : Type 0
MaskedReadsBack =
    (s : Sizes) (N : Netlist) (codes wanted : List ℕ) (R : MaskedText) → Accepted s N codes wanted R
    → read_netlist (masked_limits s) R.text ≡ done (mask_netlist N codes wanted).netlist

-- every wire of the netlist that the masked text reads as has equal counts
abbrev pub MaskedIsClean : Type 0
MaskedIsClean =
    (s : Sizes) (N M : Netlist) (codes wanted : List ℕ) (R : MaskedText) → Accepted s N codes wanted R
    → read_netlist (masked_limits s) R.text ≡ done M → Clean M codes

-- its outputs with the masks of the output codes off are the source's, for all inputs and all four mask settings
abbrev pub MaskedComputes : Type 0
MaskedComputes =
    (s : Sizes) (N M : Netlist) (codes wanted : List ℕ) (R : MaskedText) → Accepted s N codes wanted R
    → read_netlist (masked_limits s) R.text ≡ done M → Unmasks N codes M R.codes

-- the written form of a netlist within the limits reads as that netlist, under either row of limits
abbrev pub WrittenReadsBack : Type 0
WrittenReadsBack =
    (s : Sizes) (N : Netlist) → WellFormed N
    → (Within (source_limits s) N → read_netlist (source_limits s) (write_netlist N) ≡ done N)
    × (Within (masked_limits s) N → read_netlist (masked_limits s) (write_netlist N) ≡ done N)
