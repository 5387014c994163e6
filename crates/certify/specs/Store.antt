-- Records and marks in lent tables: five records a wire, of three entries each, and a mark: bit 0 for clean, bit 1 for
-- public.
use Rattle.std.specs.Prelude.{ℕ, ◌+◌, ◌*◌, ◌/◌, ◌%◌, ◌≤◌, Bool, true, cond, List, ◌≡◌, ◌≢◌, eqb, length, get_or, Option}
use Rattle.std.specs.Prelude.{Some, None}
use Rattle.netlist.specs.Netlist.{Netlist}
use Rattle.netlist.specs.Table.{half}
use Rattle.masking.specs.Leak.{EqualCounts}
use Rattle.evaluate.specs.Lane.{lane}
use Rattle.certify_records.specs.declared.Record.{Record}
use Rattle.certify_records.specs.Record.{no_atom}
use Rattle.certify.specs.Known.{Known, Open}

-- record q of a table
abbrev pub record_at : List ℕ → ℕ → Record
record_at t q = record {
  table = get_or t (3 * q) 0;
  first = get_or t (3 * q + 1) 0 % half;
  second = get_or t (3 * q + 1) 0 / half;
  third = get_or t (3 * q + 2) 0 % half;
  fourth = get_or t (3 * q + 2) 0 / half;
}

-- record q is put, and all others stay
pub record PutAt (e : List ℕ) (q : ℕ) (r : Record) (x : List ℕ) : Type 0 where
  pub here : record_at x q ≡ r
  pub other : (p : ℕ) → p ≢ q → record_at x p ≡ record_at e p

-- where both first atoms are 0, no record stands
abbrev pub Present : Record → Type 0
Present r = r.first ≡ 0 → r.second ≡ 0 → ⊥

-- the record that stands at place q, if one does
abbrev pub StandsAt : List ℕ → ℕ → Option Record → Type 0
StandsAt t q (Some r) = (r ≡ record_at t q) × Present r
StandsAt t q None = ((record_at t q).first ≡ 0) × ((record_at t q).second ≡ 0)

-- how many atoms a record has: the last place with one says it
abbrev pub atoms_of : Record → ℕ
atoms_of r =
    cond (eqb r.fourth no_atom)
    (cond (eqb r.third no_atom) (cond (eqb r.second no_atom) (cond (eqb r.first no_atom) 0 1) 2) 3) 4

-- the table has room for the records of wires below W
abbrev pub Roomy : ℕ → List ℕ → Type 0
Roomy W t = 15 * W ≤ length t

-- every record that stands in the table is right for its wire
pub record Recorded (N : Netlist) (codes : List ℕ) (t : List ℕ) : Type 0 where
  pub each : (q : ℕ) → Present (record_at t q) → Known N codes (q / 5) (record_at t q)

-- a wire that is marked clean has equal counts, and one that is marked public is
pub record Marked (N : Netlist) (codes : List ℕ) (marks : List ℕ) : Type 0 where
  pub clean : (w : ℕ) → lane 0 (get_or marks w 0) ≡ true → EqualCounts N codes w
  pub public : (w : ℕ) → lane 1 (get_or marks w 0) ≡ true → Open N codes w

-- an atom is one of a wire that is marked public, or none
abbrev pub public_atom : List ℕ → ℕ → Bool
public_atom marks a = cond (eqb a no_atom) true (lane 1 (get_or marks (a / 8) 0))

-- a record is right for a wire, if there is one
abbrev pub KnownIf : Netlist → List ℕ → ℕ → Option Record → Type 0
KnownIf N codes w None = Unit
KnownIf N codes w (Some r) = Known N codes w r
