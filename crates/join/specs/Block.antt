-- A masked block, whichever way it came about: what it computes with the masks off, and that each of its wires has
-- equal counts.
use Rattle.std.specs.Prelude.{ℕ, ◌+◌, ◌≤◌, Bool, List, ◌≡◌, length}
use Rattle.netlist.specs.declared.Sizes.{Sizes}
use Rattle.netlist.specs.Netlist.{Netlist, input_bits, output_bits, source_limits, masked_limits}
use Rattle.netlist.specs.Outcome.{done}
use Rattle.netlist.specs.Eval.{outputs_of}
use Rattle.netlist.specs.Read.{read_netlist, WellFormed}
use Rattle.masking.specs.Leak.{masked, Clean}
use Rattle.masking.specs.Unmask.{unmasked}
use Rattle.masking.specs.Calls.{mask_call}

-- M, with codes for its input bits and ends for its output bits, is a masked block of the function f on bits
pub record Block (f : List Bool → List Bool) (codes : List ℕ) (M : Netlist) (out_codes : List ℕ) : Type 0 where
  pub formed : WellFormed M
  pub inputs : length codes + 2 ≡ input_bits M
  pub outputs : length out_codes ≡ output_bits M
  pub gates : output_bits M ≤ length M.gates
  -- for all input settings and the four mask settings its outputs with the masks off are those of f
  pub computes : (m0 m1 : Bool) (x : List Bool) → length x ≡ length codes
      → unmasked m0 m1 out_codes (outputs_of M (masked m0 m1 codes x)) ≡ f x
  -- each wire has equal counts for settings that agree in their public bits
  pub clean : Clean M codes

-- a text that reads as such a block
pub record BlockText (s : Sizes) (f : List Bool → List Bool) (codes text out_codes : List ℕ) : Type 0 where
  pub netlist : Netlist
  pub read : read_netlist (masked_limits s) text ≡ done netlist
  pub block : Block f codes netlist out_codes

-- a text and its codes that came from Mask under either choice of sizes, handed a text of the source N
pub record FromMask (N : Netlist) (codes text out_codes : List ℕ) : Type 0 where
  pub sizes : Sizes
  pub source : List ℕ
  pub read : read_netlist (source_limits sizes) source ≡ done N
  pub tables : List ℕ
  pub wanted : List ℕ
  pub text_room : ℕ
  pub code_room : ℕ
  pub made : mask_call (source_limits sizes) tables source codes wanted text_room code_room
      ≡ done (record { text = text; codes = out_codes })
