-- Sixteen input settings by four mask settings in one word: lane j of block b belongs to the number b * 64 + j, whose
-- bits 0 and 1 are the mask bits and whose other bits are the number that the paints give a setting to.
use Rattle.std.specs.Prelude.{ℕ, ◌+◌, ◌*◌, ◌/◌, ◌%◌, ◌^◌, ◌<◌, Bool, false, List, ◌≢◌, ◌≡◌, get_or}
use Rattle.netlist.specs.Netlist.{Netlist}
use Rattle.masking.specs.Leak.{masked, Secret}
use Rattle.netlist.specs.Eval.{bit, wire_bits}
use Rattle.evaluate.specs.Lane.{lane, lanes}
use Rattle.leak_search.specs.Paint.{codes_of, paint}
use Rattle.leak_search.specs.Base.{part, count_in}

-- the input wires under the mask setting and the input setting of a number, or that setting's base
abbrev pub inputs_at : Bool → List ℕ → ℕ → List Bool
inputs_at secrets paints n = masked (lane 0 n) (lane 1 n) (codes_of paints)
    (part secrets (codes_of paints) (paint paints (n / 4)))

-- the words hold the bits of all wires in a block's settings, or in their bases, each lane for itself
pub record Evaluated (N : Netlist) (secrets : Bool) (paints words : List ℕ) (block : ℕ) : Type 0 where
  pub each : (j : ℕ) → j < 64 → lanes j words ≡ wire_bits N (inputs_at secrets paints (block * 64 + j))

-- four bits of a word
abbrev pub nibble : ℕ → ℕ → ℕ
nibble w s = w / 2 ^ (4 * s) % 16

-- how many of setting s's four lanes are one
abbrev pub ones : ℕ → ℕ → ℕ
ones w s = bit (lane (4 * s) w) + bit (lane (4 * s + 1) w) + bit (lane (4 * s + 2) w) + bit (lane (4 * s + 3) w)

-- the counts that are held for each wire and each setting of a block: as ones in its lanes, or as a number in its
-- nibble
abbrev pub ones_of : List ℕ → ℕ → ℕ → ℕ
ones_of words w s = ones (get_or words w 0) s

abbrev pub nibbles_of : List ℕ → ℕ → ℕ → ℕ
nibbles_of base w s = nibble (get_or base w 0) s

-- they are those of a block's settings, or of their bases
pub record Counted (N : Netlist) (secrets : Bool) (paints : List ℕ) (held : ℕ → ℕ → ℕ) (block : ℕ) : Type 0 where
  pub each : (w s : ℕ) → s < 16 → held w s ≡ count_in N secrets paints w (block * 16 + s)

-- where no bit is public, all settings have the same base, whose counts are held from the second block on
abbrev pub Ready : Bool → Netlist → List ℕ → List ℕ → ℕ → Type 0
Ready publics N paints base block = publics ≡ false → Secret (codes_of paints)
    × (block ≢ 0 → Counted N false paints (nibbles_of base) block)

-- the counts of wires below W in settings below S are the same
abbrev pub Agree : (ℕ → ℕ → ℕ) → (ℕ → ℕ → ℕ) → ℕ → ℕ → Type 0
Agree f g W S = (w : ℕ) → w < W → (s : ℕ) → s < S → f w s ≡ g w s
