-- What an accepted call that joins two texts delivers (docs/RULES.md, Joining).
use Rattle.std.specs.Prelude.{ℕ, ◌-◌, ◌<◌, Bool, List, ◌++◌, ◌≡◌, length, drop}
use Rattle.netlist.specs.declared.Sizes.{Sizes}
use Rattle.netlist.specs.Netlist.{Netlist, input_bits, masked_limits, large_text}
use Rattle.netlist.specs.Outcome.{done}
use Rattle.netlist.specs.Eval.{outputs_of}
use Rattle.netlist.specs.Read.{read_netlist}
use Rattle.netlist.specs.Write.{write_netlist}
use Rattle.masking.specs.Leak.{masked, EqualCounts}
use Rattle.masking.specs.Unmask.{unmasked}
use Rattle.join.specs.Join.{join}
use Rattle.join.specs.Call.{join_call}
use Rattle.join.specs.Block.{FromMask, BlockText}

-- what goes over the seam: the first's output bits, and the mask pair, which are its last two input bits
abbrev pub seam_bits : Netlist → List Bool → List Bool
seam_bits A ins = outputs_of A ins ++ drop (input_bits A - 2) ins

-- the sizes, the tables' lengths, the first text with its input and output codes, the second with its input codes, the
-- buffer's length, and the text delivered
pub record Delivered (s : Sizes) (tables first codes out_codes second inner : List ℕ) (room : ℕ) (text : List ℕ) : Type
    0 where
  pub first_is : Netlist
  pub first_read : read_netlist (masked_limits s) first ≡ done first_is
  pub second_is : Netlist
  pub second_read : read_netlist (masked_limits s) second ≡ done second_is
  -- the text is that of the joined netlist, and reads back as it
  pub written : text ≡ write_netlist (join first_is second_is)
  pub back : read_netlist (masked_limits s) text ≡ done (join first_is second_is)
  -- which computes the second on the first's outputs and the same mask pair
  pub computes : (ins : List Bool) → length ins ≡ input_bits first_is → outputs_of (join first_is second_is) ins
      ≡ outputs_of second_is (seam_bits first_is ins)
  -- where both texts and their codes came from Mask: for all inputs and the four mask settings, the outputs with masks
  -- off are the second source's outputs of the first's
  pub outputs : (N N' : Netlist) (out_codes' : List ℕ) → FromMask N codes first out_codes
      → FromMask N' inner second out_codes'
      → (m0 m1 : Bool) (x : List Bool) → length x ≡ length codes
      → unmasked m0 m1 out_codes' (outputs_of (join first_is second_is) (masked m0 m1 codes x))
      ≡ outputs_of N' (outputs_of N x)
  -- and every wire has equal counts for settings that agree in the first's public bits
  pub counts : (N N' : Netlist) (out_codes' : List ℕ) → FromMask N codes first out_codes
      → FromMask N' inner second out_codes'
      → (w : ℕ) → w < (join first_is second_is).wires → EqualCounts (join first_is second_is) codes w
  -- both again of blocks, whichever way they came about: what comes of joining can be joined again
  pub block : (f g : List Bool → List Bool) (out_codes' : List ℕ) → BlockText s f codes first out_codes
      → BlockText s g inner second out_codes'
      → BlockText s (λ x. g (f x)) codes text out_codes'
  -- three blocks: where the first text is itself one and two joined, the call that joins two with this call's second
  -- text is accepted, and the call that joins one with what comes of it delivers the very same text
  pub later_seam : (f g : List Bool → List Bool) (one one_out_codes two two_codes : List ℕ) (p : ℕ)
      → BlockText s f codes one one_out_codes
      → BlockText s g two_codes
      two out_codes
      → join_call (masked_limits s) tables one codes one_out_codes two two_codes p ≡ done first
      → (x : List ℕ) × (join_call (masked_limits s) tables two two_codes out_codes second inner (large_text s) ≡ done x)
      × (join_call (masked_limits s) tables one codes one_out_codes x two_codes room ≡ done text)
  -- and where the second text is two and three joined, so it is with this call's first text and two, and then three
  pub earlier_seam : (f g : List Bool → List Bool) (two two_out_codes three three_codes : List ℕ) (p : ℕ)
      → BlockText s f codes first out_codes
      → BlockText s g inner two two_out_codes → join_call (masked_limits s) tables two inner two_out_codes three
      three_codes p ≡ done second
      → (x : List ℕ) × (join_call (masked_limits s) tables first codes out_codes two inner (large_text s) ≡ done x)
      × (join_call (masked_limits s) tables x codes two_out_codes three three_codes room ≡ done text)
