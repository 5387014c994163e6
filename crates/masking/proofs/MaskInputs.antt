-- What Mask is handed: the premise of every law about the masked netlist.
use Prim.Native.Nat.{ℕ}
use mathlib.Core.Path.{◌≡◌}
use mathlib.Core.List.{List}
use lib.Dec.{T, eqb, eqb→eq}
use lib.ListN.{length}
use Rattle.netlist.specs.Lists.{every}
use Rattle.netlist.specs.Netlist.{Netlist, input_bits, output_bits}
use Rattle.netlist.specs.Read.{WellFormed}
use Rattle.masking.specs.Mask.{is_input_code, is_wanted}
use Rattle.netlist.specs.Services.{list_good}
use Rattle.netlist.proofs.Tests.{both}

-- a source that questions 4 to 9 admit, a list of codes that question 11 admits, and a wanted list that 13 admits
pub record MaskInputs (N : Netlist) (codes wanted : List ℕ) : Type 0 where
  pub source : WellFormed N
  pub codes_length : length codes ≡ input_bits N
  pub codes_good : T (every is_input_code codes)
  pub wanted_length : length wanted ≡ output_bits N
  pub wanted_good : T (every is_wanted wanted)

-- from the answers to questions 11 and 13
pub mask-inputs : {N : Netlist} {codes wanted : List ℕ} → WellFormed N
    → T (list_good is_input_code (input_bits N) codes)
    → T (list_good is_wanted (output_bits N) wanted)
    → MaskInputs N codes wanted
mask-inputs {N} {codes} {wanted} F c w =
    let p = both (eqb (length codes) (input_bits N)) (every is_input_code codes) c in
    let q = both (eqb (length wanted) (output_bits N)) (every is_wanted wanted) w in
    record {
      source = F;
      codes_length = eqb→eq _ _ p.0;
      codes_good = p.1;
      wanted_length = eqb→eq _ _ q.0;
      wanted_good
          = q.1;
    }
