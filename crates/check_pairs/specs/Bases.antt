-- The words and the counts of the bases of a block's settings.
use Rattle.std.specs.Prelude.{ℕ, ◌<◌, Bool, false, List, ◌≢◌, ◌≡◌}
use Rattle.netlist.specs.Netlist.{Netlist}
use Rattle.masking.specs.Leak.{Secret}
use Rattle.leak_search.specs.Paint.{codes_of}
use Rattle.leak_search.specs.Block.{ones_of, nibbles_of, Evaluated}

-- the words of a block's bases, and the counts of single wires in them
pub record Based (N : Netlist) (paints bases base : List ℕ) (block : ℕ) : Type 0 where
  pub words : Evaluated N false paints bases block
  pub counts : (w s : ℕ) → s < 16 → nibbles_of base w s ≡ ones_of bases w s

-- where no bit is public, all settings have the same base, whose words and counts are held from the second block on
abbrev pub HeldOn : Bool → Netlist → List ℕ → List ℕ → List ℕ → ℕ → Type 0
HeldOn publics N paints bases base block = publics ≡ false → Secret (codes_of paints)
    × (block ≢ 0 → Based N paints bases base block)
