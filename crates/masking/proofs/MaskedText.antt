-- The text of a masked netlist reads back as that netlist.
use Prim.Native.Nat.{ℕ, ◌≤◌}
use mathlib.Core.Path.{◌≡◌}
use mathlib.Core.List.{List}
use lib.ListN.{length}
use Rattle.netlist.specs.declared.Limits.{Limits}
use Rattle.netlist.specs.declared.Sizes.{Sizes}
use Rattle.netlist.specs.Netlist.{Netlist, source_limits, masked_limits}
use Rattle.netlist.specs.Outcome.{done}
use Rattle.netlist.specs.Read.{read_netlist, Within}
use Rattle.netlist.specs.Write.{write_netlist}
use Rattle.masking.specs.Mask.{mask_netlist}
use Rattle.masking.proofs.MaskInputs.{MaskInputs}
use Rattle.masking.proofs.Shape.{masked-well_formed}
use Rattle.masking.proofs.GateCount.{RoomToMask, room-to-mask, masked-within}
use Rattle.netlist.proofs.Size.{Roomy, roomy-large, written-within, reads-back}

-- under limits that have room for it, where the source is within its own
module _ {S L : Limits} (M : RoomToMask S L) (R : Roomy L) {N : Netlist} {codes wanted : List ℕ}
    (C : MaskInputs N codes wanted) (w : Within S N) where
  pub masked-text-within : length (write_netlist (mask_netlist N codes wanted).netlist) ≤ L.text
  masked-text-within = written-within R _ (masked-well_formed C) (masked-within C M w)

  pub masked-reads-back : read_netlist L (write_netlist (mask_netlist N codes wanted).netlist)
      ≡ done (mask_netlist N codes wanted).netlist
  masked-reads-back = reads-back R _ (masked-well_formed C) (masked-within C M w)

-- under the large limits, where the source is within the small ones
pub masked-reads : (s : Sizes) {N : Netlist} {codes wanted : List ℕ} → MaskInputs N codes wanted
    → Within (source_limits s) N
    → read_netlist (masked_limits s) (write_netlist (mask_netlist N codes wanted).netlist)
    ≡ done (mask_netlist N codes wanted).netlist
masked-reads s = masked-reads-back (room-to-mask s) (roomy-large s)
