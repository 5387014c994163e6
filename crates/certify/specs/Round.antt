-- One round: sixteen settings by four mask settings in one word, as in Check's blocks: lanes 4 s to 4 s + 3 belong to
-- setting s. Setting 0 is the base of all.
use Rattle.std.specs.Prelude.{ℕ, ◌+◌, ◌*◌, ◌/◌, ◌<◌, Bool, ◌&&◌, List, ◌≡◌, length, get_or, take}
use Rattle.netlist.specs.Netlist.{Netlist}
use Rattle.masking.specs.Mask.{is_public}
use Rattle.masking.specs.Leak.{mask_of, masked, public_only}
use Rattle.netlist.specs.Eval.{differs, wire_bits}
use Rattle.evaluate.specs.Lane.{lane, lanes}

-- a word is one of an input bit with a code: its bit in each setting, masked; in setting 0 the base's
pub record InputWord (code w : ℕ) : Type 0 where
  pub masked : (j : ℕ) → j < 64 → lane j w ≡ differs (lane (4 * (j / 4)) w) (mask_of (lane 0 j) (lane 1 j) code)
  pub base : (s : ℕ) → s < 16 → is_public code && lane (4 * s) w ≡ lane 0 w

-- the words of all input wires
pub record Loaded (codes words : List ℕ) : Type 0 where
  pub inputs : (i : ℕ) → i < length codes → InputWord (get_or codes i 0) (get_or words i 0)
  pub first : (j : ℕ) → j < 64 → lane j (get_or words (length codes) 0) ≡ lane 0 j
  pub second : (j : ℕ) → j < 64 → lane j (get_or words (length codes + 1) 0) ≡ lane 1 j

-- setting s, as the words of the input wires hold it where both mask bits are zero
abbrev pub setting_in : List ℕ → List ℕ → ℕ → List Bool
setting_in codes words s = lanes (4 * s) (take (length codes) words)

-- the words hold the bits of all wires in these settings, and setting 0 is the base of all
pub record Ran (N : Netlist) (codes words : List ℕ) : Type 0 where
  pub each : (j : ℕ) → j < 64 → lanes j words ≡ wire_bits N (masked (lane 0 j) (lane 1 j) codes
      (setting_in codes words (j / 4)))
  pub base : (s : ℕ) → s < 16 → public_only codes (setting_in codes words s) ≡ setting_in codes words 0
