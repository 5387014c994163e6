-- Rows of steps of a session, and what Mask gives for the gates that they leave.
use Prim.Native.Nat.{ℕ, ◌+◌}
use mathlib.Core.Path.{◌≡◌, sym, ap, ◌∙◌}
use mathlib.Core.List.{List, ◌++◌}
use lib.ListN.{length}
use Rattle.netlist.specs.declared.Gate.{Gate}
use Rattle.netlist.specs.Netlist.{Netlist, input_bits}
use Rattle.masking.specs.Mask.{out_gates, finish, out_twins}
use Rattle.session.specs.Afresh.{afresh}
use Rattle.session.proofs.RowsHold.{row-from-opening, masked-afresh}
use Rattle.session.proofs.SameAsMask.{masks-afresh}
use Rattle.theorems.specs.Sessions.{AfreshAsMask, RowsMaskAfresh}

as-mask : (codes : List ℕ) (gs : List Gate) → AfreshAsMask codes gs
as-mask codes gs N wanted i w g =
    masks-afresh N codes wanted i (w ∙ ap (λ (hs : List Gate). length codes + length hs) (sym g))
    ∙ ap (λ (hs : List Gate). afresh codes hs
    ++ out_gates (input_bits N) (finish N codes).next (out_twins N codes) wanted) g

pub rows-mask-afresh : RowsMaskAfresh
rows-mask-afresh s widths codes source masked row opens = record {
  held = row-from-opening s widths codes source masked opens row;
  afresh = masked-afresh s widths codes source masked opens row;
  as_mask = as-mask codes _;
}
