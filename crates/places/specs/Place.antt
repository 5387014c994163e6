-- A refused place as an offset, a line and a column.
use Rattle.std.specs.Prelude.{ℕ, Option, Some, None, ◌≤◌, ◌≡◌, cond, List, leb, length, take}
use Rattle.netlist.specs.declared.Limits.{Limits}
use Rattle.places.specs.declared.fault.Fault.{Fault}
use Rattle.places.specs.declared.fault.Spot.{Spot}
use Rattle.places.specs.declared.fault.Spot.TheVariants.{Byte, Word}
use Rattle.places.specs.declared.place.Place.{Place}
use Rattle.places.specs.Places.{FoundIs}
use Rattle.places.specs.Positions.{line_after, column_after, Stands}

-- an offset is that of a spot of the text: of a byte, or of the text's end where it has fewer; of a word
abbrev pub SpotIs : List ℕ → Spot → ℕ → Type 0
SpotIs t (Byte at) offset = offset ≡ cond (leb at (length t)) at (length t)
SpotIs t (Word line word) offset = Stands t line word offset

pub record SpotAt (t : List ℕ) (s : Spot) (offset : ℕ) : Type 0 where
  pub spot : SpotIs t s offset
  pub within : offset ≤ length t

-- the refusal, the offset of its spot, and the line and the column there
pub record PlaceIs (t : List ℕ) (f : Fault) (p : Place) : Type 0 where
  pub fault : p.fault ≡ f
  pub spot : SpotAt t f.spot p.offset
  pub line : p.line ≡ line_after 1 (take p.offset t)
  pub column : p.column ≡ column_after 1 (take p.offset t)

-- the text reads as a netlist, or a question refuses it, at this place first
abbrev pub PlacedIs : Limits → List ℕ → Option Place → Type 0
PlacedIs L t None = FoundIs L t None
PlacedIs L t (Some p) = FoundIs L t (Some p.fault) × PlaceIs t p.fault p
