-- What a record says of a wire. An atom is a bit that the input setting alone decides; a record has up to four atoms
-- and a table of what the wire is at each mask setting for each setting of these atoms.
use Rattle.std.specs.Prelude.{ℕ, ◌<◌, Bool, cond, eqb, ◌≡◌, ◌≢◌, Option, Some, None}
use Rattle.netlist.specs.Table.{made_of}
use Rattle.evaluate.specs.Lane.{lane}
use Rattle.certify_records.specs.declared.Record.{Record}

-- the number that stands where there is no atom
abbrev pub no_atom : ℕ
no_atom = 4294967295

-- the bit of an atom is b; where there is no atom, b is free
pub record Has (bits : ℕ → Bool) (a : ℕ) (b : Bool) : Type 0 where
  pub bit : a ≢ no_atom → bits a ≡ b

-- place l is one for these bits of the atoms
pub record At (bits : ℕ → Bool) (r : Record) (l : ℕ) : Type 0 where
  pub first : Has bits r.first (lane 2 l)
  pub second : Has bits r.second (lane 3 l)
  pub third : Has bits r.third (lane 4 l)
  pub fourth : Has bits r.fourth (lane 5 l)

-- the record over one atom
abbrev pub over : ℕ → ℕ → Record
over t a = record { table = t; first = a; second = no_atom; third = no_atom; fourth = no_atom }

-- two records have the same atoms
pub record SameAtoms (r s : Record) : Type 0 where
  pub first : r.first ≡ s.first
  pub second : r.second ≡ s.second
  pub third : r.third ≡ s.third
  pub fourth : r.fourth ≡ s.fourth

-- the atom of a place of two records
abbrev pub either_of : ℕ → ℕ → ℕ
either_of a b = cond (eqb a no_atom) b a

-- it is z, and a bit of z is one of both
pub record EitherAt (a b z : ℕ) : Type 0 where
  pub atom : z ≡ either_of a b
  pub agrees : (bits : ℕ → Bool) (x : Bool) → Has bits z x → Has bits a x × Has bits b x

abbrev pub EitherIs : ℕ → ℕ → Option ℕ → Type 0
EitherIs a b (Some z) = EitherAt a b z
EitherIs a b None = Unit

-- a record is right, for the bits of the atoms and of a wire under each mask setting: at each such place stands the
-- wire's bit
pub record Right (bits : ℕ → Bool) (wire : Bool → Bool → Bool) (r : Record) : Type 0 where
  pub each : (l : ℕ) → l < 64 → At bits r l → lane l r.table ≡ wire (lane 0 l) (lane 1 l)

-- a record says what another says
pub record Says (r s : Record) : Type 0 where
  pub right : {bits : ℕ → Bool} {wire : Bool → Bool → Bool} → Right bits wire r → Right bits wire s

-- a record is right for what a kind of gate makes of two wires, where two records are right for them
abbrev pub JoinIs : ℕ → Record → Record → Option Record → Type 0
JoinIs kind x y (Some z) =
    (bits : ℕ → Bool) (u v : Bool → Bool → Bool) → Right bits u x → Right bits v y
    → Right bits (λ m0 m1. made_of kind (u m0 m1) (v m0 m1)) z
JoinIs kind x y None = Unit
