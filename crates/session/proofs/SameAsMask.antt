-- What a session shows is what Mask writes: the masked gates of a netlist are those masked afresh, and then the output
-- copies.
use Prim.Native.Nat.{ℕ, ◌+◌, ◌-◌}
use mathlib.Core.Path.{◌≡◌, ap₂}
use mathlib.Core.List.{List, ◌++◌}
use native.Mathlib.Omega.{arith}
use lib.ListN.{length, replicate}
use Rattle.netlist.specs.Netlist.{Netlist, input_bits}
use Rattle.masking.specs.Mask.{State, no_twin, mask_gates, public_gates, input_twins, past_publics, emit_all, start}
use Rattle.masking.specs.Mask.{finish, out_twins, out_gates, mask_netlist}
use Rattle.session.specs.Afresh.{opened, afresh}

module _ (N : Netlist) (codes wanted : List ℕ) (i : input_bits N ≡ length codes)
    (w : N.wires ≡ length codes + length N.gates) where
  opened-is : start N codes ≡ opened codes (length N.gates)
  opened-is =
      let m : N.wires - input_bits N ≡ length N.gates = omega (arith, i, w) in
      ap₂ (λ (k l : ℕ). record {
        next = past_publics (k + 5) codes;
        twins = input_twins (k + 5) 0 codes
            ++ replicate l no_twin;
      }) i m

  pub masks-afresh : (mask_netlist N codes wanted).netlist.gates
      ≡ afresh codes N.gates ++ out_gates (input_bits N) (finish N codes).next (out_twins N codes) wanted
  unfolding mask_netlist
  masks-afresh =
      let o = out_gates (input_bits N) (finish N codes).next (out_twins N codes) wanted in
      ap₂ (λ (k : ℕ) (S : State). mask_gates k ++ public_gates k (k + 5) 0 codes ++ emit_all k S N.gates ++ o) i
      opened-is
