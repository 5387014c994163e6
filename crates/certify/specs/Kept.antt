-- What the tables of records, marks and hints hold after a change.
use Rattle.std.specs.Prelude.{ℕ, zero, suc, ◌+◌, ◌*◌, ◌/◌, ◌%◌, Bool, false, cond, not, ◌&&◌, List, eqb, leb, ltb}
use Rattle.std.specs.Prelude.{length, get_or, set, Option, Some, None}
use Rattle.std.specs.Int.Bits.{bit_xor}
use Rattle.netlist.specs.Table.{half}
use Rattle.certify_records.specs.declared.Record.{Record}
use Rattle.certify_records.specs.Record.{no_atom}
use Rattle.certify_records.specs.Mix.{mixed}
use Rattle.certify_records.specs.Made.{even_of, same_atoms, selector_of, one_atom}
use Rattle.certify.specs.Store.{record_at, atoms_of, public_atom}

-- two numbers in one entry
abbrev pub packed : ℕ → ℕ → ℕ
packed a b = a + b * half

-- record q put into a table
abbrev pub put_record : List ℕ → ℕ → Record → List ℕ
put_record t q r = set (set (set t (3 * q) r.table) (3 * q + 1) (packed r.first r.second)) (3 * q + 2)
    (packed r.third r.fourth)

-- record q, if one stands there
abbrev pub record_if : List ℕ → ℕ → Option Record
record_if t q = cond (eqb (get_or t (3 * q + 1) 0) 0) None (Some (record_at t q))

-- record r comes to place q, where another may stand: the table, and what is still to be put
abbrev pub stepped_on : List ℕ → ℕ → Record → Option Record → List ℕ × Option Record
stepped_on t q r None = (put_record t q r, None)
stepped_on t q r (Some s) = cond (same_atoms s r) (t, None) (cond (ltb (atoms_of r) (atoms_of s))
    (put_record t q r, Some s) (t, Some r))

abbrev pub stepped : List ℕ → ℕ → Record → List ℕ × Option Record
stepped t q r = stepped_on t q r (record_if t q)

-- what is still to be put goes on
abbrev pub keep_rest : (List ℕ → Record → List ℕ) → List ℕ × Option Record → List ℕ
keep_rest f (t, None) = t
keep_rest f (t, Some s) = f t s

-- a record comes to so many places from q on
abbrev pub keep_more : ℕ → ℕ → List ℕ → Record → List ℕ
keep_more zero q t r = t
keep_more (suc n) q t r = keep_rest (keep_more n (q + 1)) (stepped t q r)

-- whether a record has the atoms of another, if there is one
abbrev pub is_like : Option Record → Record → Bool
is_like None r = false
is_like (Some s) r = same_atoms s r

-- a record comes to the places 1 to 4 of wire w
abbrev pub kept : ℕ → List ℕ → Record → List ℕ
kept w t r = cond (is_like (record_if t (5 * w)) r) t (keep_more 4 (5 * w + 1) t r)

-- the place of the hint for a function of a record's atoms
abbrev pub place_of : Record → ℕ → ℕ → ℕ
place_of r chosen places = mixed (bit_xor (mixed (bit_xor chosen (packed r.first r.second))) (packed r.third r.fourth))
    % places

-- a leaf over another atom
abbrev pub over_atom : Record → ℕ → Record
over_atom leaf a = record {
  table = leaf.table;
  first = a;
  second = leaf.second;
  third = leaf.third;
  fourth
      = leaf.fourth;
}

abbrev pub tried_on : Record → Record → ℕ → Option Record → Option Record
tried_on r leaf a None = None
tried_on r leaf a (Some s) = cond (one_atom r leaf.first s a) (Some (over_atom leaf a)) None

-- the leaf of wire w over the atom of a hint, if records show that it is its own
abbrev pub tried : List ℕ → ℕ → ℕ → Record → Record → Option Record
tried records hint w r leaf =
    let a = hint % half in
    let q = hint / half in
    cond (eqb a no_atom) None
    (cond (not (eqb (a / 8) (q / 5))) None
    (cond (not (eqb (leaf.first / 8) w)) None
    (cond (leb (length records / 3) q) None (tried_on r leaf a (record_if records q)))))

abbrev pub hinted_on : List ℕ → ℕ → ℕ → Record → Option Record → Record × List ℕ
hinted_on hints i q leaf (Some s) = (s, hints)
hinted_on hints i q leaf None = (leaf, set hints i (packed leaf.first (q % half)))

-- the leaf of wire w that its k-th record gives, and the hints
abbrev pub hinted : List ℕ → List ℕ → ℕ → ℕ → Record → Record → Record × List ℕ
hinted records hints w k r leaf =
    let i = place_of r (selector_of r.table leaf.first) (length hints) in
    cond (eqb (length hints) 0) (leaf, hints) (hinted_on hints i (5 * w + k) leaf
    (tried records (get_or hints i 0) w r leaf))

-- whether a record shows that its wire is clean, or public
abbrev pub clean_by : List ℕ → Record → Bool
clean_by marks r = even_of r (public_atom marks r.first) (public_atom marks r.second) (public_atom marks r.third)
    (public_atom marks r.fourth)

abbrev pub public_by : List ℕ → Record → Bool
public_by marks r =
    ((public_atom marks r.first && public_atom marks r.second) && public_atom marks r.third) && public_atom marks
    r.fourth
