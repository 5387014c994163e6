-- A refused place as C reads it.
use Rattle.std.specs.Prelude.{ℕ, Option, Some, None, ◌≡◌, true, false, cond, List, eqb, leb, length}
use Rattle.netlist.specs.declared.Limits.{Limits}
use Rattle.netlist.specs.declared.Sizes.{Sizes}
use Rattle.netlist.specs.Netlist.{source_limits, masked_limits}
use Rattle.netlist.specs.Refusal.{number_of}
use Rattle.netlist.specs.Services.{Cleared}
use Rattle.places.specs.declared.fault.Spot.{Spot}
use Rattle.places.specs.declared.fault.Spot.TheVariants.{Byte, Word}
use Rattle.places.specs.declared.place.Place.{Place}
use Rattle.places.specs.Place.{PlacedIs}
use Rattle.capi.specs.declared.refused_places.PlaceAnswer.{PlaceAnswer}

-- the limits of a source for 0, and otherwise those of a masked netlist
abbrev pub limits_for : ℕ → Sizes → Limits
limits_for masked s = cond (eqb masked 0) (source_limits s) (masked_limits s)

-- the line and the word of a spot, 0 where it is a byte
abbrev pub entry_of : Spot → ℕ
entry_of (Byte at) = 0
entry_of (Word line word) = line

abbrev pub word_of : Spot → ℕ
word_of (Byte at) = 0
word_of (Word line word) = word

-- a question without a place
abbrev pub refused_by : ℕ → PlaceAnswer
refused_by q = record {
  offset = 0;
  line = 0;
  column = 0;
  entry = 0;
  word = 0;
  have = 0;
  most = 0;
  refused = q;
}

abbrev pub place_answer : Option Place → PlaceAnswer
place_answer None = refused_by 0
place_answer (Some p) = record {
  offset = p.offset;
  line = p.line;
  column = p.column;
  entry = entry_of p.fault.spot;
  word = word_of p.fault.spot;
  have = p.fault.have;
  most = p.fault.most;
  refused = number_of p.fault.question;
}

-- the answer tells the first refused place of the text, or that there is none
pub record Tells (L : Limits) (t : List ℕ) (a : PlaceAnswer) : Type 0 where
  pub place : Option Place
  pub found : PlacedIs L t place
  pub told : a ≡ place_answer place

-- question 1 of the table of given wires, and then the place; the table is cleared
pub record PlaceTold (L : Limits) (text g g' : List ℕ) (a : PlaceAnswer) : Type 0 where
  pub short : leb L.wires (length g) ≡ false → a ≡ refused_by 1
  pub place : leb L.wires (length g) ≡ true → Tells L text a
  pub marks : Cleared g g'
