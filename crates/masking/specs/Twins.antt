-- What the twins of the source wires are worth (docs/RULES.md, Twins).
use Rattle.std.specs.Prelude.{ℕ, ◌<◌, Bool, List, ◌≡◌, T, length, get_or}
use Rattle.netlist.specs.declared.Twin.{Twin}
use Rattle.netlist.specs.Netlist.{Netlist}
use Rattle.netlist.specs.Eval.{wire_bits, bits_at, differs}
use Rattle.masking.specs.Mask.{is_code, no_twin}
use Rattle.masking.specs.Leak.{mask_of, masked}

-- wire w of N has the twin t in M, with codes for M's input bits: for all input settings and all four mask settings the
-- twin's wire is the bit of w XOR the mask of the twin's code, which is 1, 2 or 3
pub record TwinOf (N : Netlist) (codes : List ℕ) (M : Netlist) (w : ℕ) (t : Twin) : Type 0 where
  pub wire : t.wire < M.wires
  pub code : T (is_code t.code)
  pub carries : (m0 m1 : Bool) (x : List Bool) → length x ≡ length codes
      → bits_at (wire_bits M (masked m0 m1 codes x)) t.wire ≡ differs (bits_at (wire_bits N x) w) (mask_of m0 m1 t.code)

-- the twins of all wires of N, in order
pub record Twins (N : Netlist) (codes : List ℕ) (M : Netlist) (ts : List Twin) : Type 0 where
  pub many : length ts ≡ N.wires
  pub each : (w : ℕ) → w < N.wires → TwinOf N codes M w (get_or ts w no_twin)
