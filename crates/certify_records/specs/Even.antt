-- A record whose count depends on public atoms alone.
use Rattle.std.specs.Prelude.{ℕ, ◌+◌, ◌*◌, Bool, true, ◌≡◌}
use Rattle.netlist.specs.Eval.{bit}
use Rattle.masking.specs.Leak.{count_of}
use Rattle.certify_records.specs.declared.Record.{Record}
use Rattle.certify_records.specs.Record.{Right}

-- the setting of four atoms as a number
abbrev pub atom_setting : Bool → Bool → Bool → Bool → ℕ
atom_setting a b c d = bit a + (2 * bit b + (4 * bit c + 8 * bit d))

-- two wires for which a record is right have equal counts, if the atoms that are public have equal bits
pub record Even (r : Record) (a b c d : Bool) : Type 0 where
  pub same : {bits bits' : ℕ → Bool} {wire wire' : Bool → Bool → Bool} → Right bits wire r → Right bits' wire' r
      → (a ≡ true → bits r.first ≡ bits' r.first) → (b ≡ true → bits r.second ≡ bits' r.second)
      → (c ≡ true → bits r.third ≡ bits' r.third) → (d ≡ true → bits r.fourth ≡ bits' r.fourth) → count_of wire
      ≡ count_of wire'
