-- What is made of records, as their words and atoms.
use Rattle.std.specs.Prelude.{ℕ, ◌+◌, ◌*◌, ◌/◌, ◌%◌, ◌^◌, Bool, cond, not, ◌||◌, ◌&&◌, eqb, leb, ltb, Option, Some}
use Rattle.std.specs.Prelude.{None}
use Rattle.std.specs.Int.Bits.{bit_and, bit_xor}
use Rattle.netlist.specs.Table.{made_of}
use Rattle.evaluate.specs.Lane.{lane, word}
use Rattle.certify_records.specs.declared.Record.{Record}
use Rattle.netlist.specs.Eval.{bit}
use Rattle.leak_search.specs.Block.{nibble, ones}
use Rattle.certify_records.specs.Record.{no_atom, over}
use lib.Count.{count_trailing_zeros}

-- the places marked in `moved` exchanged with those so many above them
abbrev pub exchange_of : ℕ → ℕ → ℕ → ℕ
exchange_of t by moved =
    let x = bit_and (bit_xor (t / 2 ^ by) t) moved in
    bit_xor (bit_xor t x) (x * 2 ^ by % 2 ^ 64)

-- two neighbouring atoms exchanged
abbrev pub low_of : Record → Record
low_of r = record {
  table = exchange_of r.table 4 0x00f0_00f0_00f0_00f0;
  first = r.second;
  second = r.first;
  third
      = r.third;
  fourth = r.fourth;
}

abbrev pub middle_of : Record → Record
middle_of r = record {
  table = exchange_of r.table 8 0x0000_ff00_0000_ff00;
  first = r.first;
  second = r.third;
  third
      = r.second;
  fourth = r.fourth;
}

abbrev pub high_of : Record → Record
high_of r = record {
  table = exchange_of r.table 16 0x0000_0000_ffff_0000;
  first = r.first;
  second = r.second;
  third
      = r.fourth;
  fourth = r.third;
}

-- the last atom comes to the first place, or to the second
abbrev pub room_first_of : Record → Record
room_first_of r = low_of (middle_of (high_of r))

abbrev pub room_second_of : Record → Record
room_second_of r = middle_of (high_of r)

-- of a place where two records have atoms a and b, the lower one stays
abbrev pub align_of : (Record → Record) → Record → Record → ℕ → ℕ → Record × Record
align_of room x y a b = cond (ltb a b) (x, room y) (cond (ltb b a) (room x, y) (x, y))

abbrev pub aligned_second : Record × Record → Record × Record
aligned_second p = align_of room_second_of p.0 p.1 p.0.second p.1.second

abbrev pub aligned_third : Record × Record → Record × Record
aligned_third p = align_of high_of p.0 p.1 p.0.third p.1.third

-- equal atoms in equal places
abbrev pub aligned_of : Record → Record → Record × Record
aligned_of x y = aligned_third (aligned_second (align_of room_first_of x y x.first y.first))

-- the atom of a place of two records, if they have no different atoms there
abbrev pub one_of : ℕ → ℕ → Option ℕ
one_of a b = cond (eqb a no_atom) (Some b) (cond (eqb b no_atom || eqb a b) (Some a) None)

-- a record of a table and four atoms, if there are all
abbrev pub record_of : ℕ → Option ℕ → Option ℕ → Option ℕ → Option ℕ → Option Record
record_of t None b c d = None
record_of t (Some p) None c d = None
record_of t (Some p) (Some q) None d = None
record_of t (Some p) (Some q) (Some u) None = None
record_of t (Some p) (Some q) (Some u) (Some v)
    = Some (record { table = t; first = p; second = q; third = u; fourth = v })

-- what a kind of gate makes of two tables
abbrev pub made_table : ℕ → ℕ → ℕ → ℕ
made_table kind t u = word 64 (λ l. made_of kind (lane l t) (lane l u))

abbrev pub meet_of : ℕ → Record → Record → Option Record
meet_of kind x y =
    record_of (made_table kind x.table y.table) (one_of x.first y.first) (one_of x.second y.second)
    (one_of x.third y.third) (one_of x.fourth y.fourth)

-- whether the places marked in `low` of a table are those so many above them
abbrev pub free_of : ℕ → ℕ → ℕ → Bool
free_of t up low = eqb (bit_and (bit_xor (t / 2 ^ up) t) low) 0

-- an atom left out, if nothing depends on it
abbrev pub without_of : Record → ℕ → ℕ → ℕ → Record → Record
without_of r atom up low left = cond (not (eqb atom no_atom) && free_of r.table up low) left r

abbrev pub without_fourth_of : Record → Record
without_fourth_of r =
    without_of r r.fourth 32 0x0000_0000_ffff_ffff
    (record { table = r.table; first = r.first; second = r.second; third = r.third; fourth = no_atom })

abbrev pub without_third_of : Record → Record
without_third_of r =
    without_of r r.third 16 0x0000_ffff_0000_ffff
    (high_of (record { table = r.table; first = r.first; second = r.second; third = no_atom; fourth = r.fourth }))

abbrev pub without_second_of : Record → Record
without_second_of r =
    without_of r r.second 8 0x00ff_00ff_00ff_00ff
    (high_of (middle_of (record {
      table = r.table;
      first = r.first;
      second = no_atom;
      third = r.third;
      fourth
          = r.fourth;
    })))

abbrev pub without_first_of : Record → Record
without_first_of r =
    without_of r r.first 4 0x0f0f_0f0f_0f0f_0f0f
    (high_of (middle_of (low_of (record {
      table = r.table;
      first = no_atom;
      second = r.second;
      third = r.third;
      fourth
          = r.fourth;
    }))))

-- every atom left out on which nothing depends
abbrev pub reduced_of : Record → Record
reduced_of r = without_first_of (without_second_of (without_third_of (without_fourth_of r)))

abbrev pub reduced_if : Option Record → Option Record
reduced_if None = None
reduced_if (Some r) = Some (reduced_of r)

-- the record of what a kind of gate makes of two wires, from a record of each; none where it has more than four atoms
unfoldable pub combined : ℕ → Record → Record → Option Record
combined kind x y = let p = aligned_of x y in reduced_if (meet_of kind p.0 p.1)

-- whether two records have the same atoms
abbrev pub same_atoms : Record → Record → Bool
same_atoms r s = eqb r.first s.first && (eqb r.second s.second && (eqb r.third s.third && eqb r.fourth s.fourth))

-- how many of each nibble's lanes are one, in its place
abbrev pub counts_of : ℕ → ℕ
counts_of t = word 64 (λ l. lane (l % 4) (ones t (l / 4)))

-- whether an atom is public or no count depends on it
abbrev pub settled : Bool → ℕ → ℕ → ℕ → Bool
settled public t up low = public || free_of t up low

-- whether the count depends on those atoms alone that are public
unfoldable pub even_of : Record → Bool → Bool → Bool → Bool → Bool
even_of r a b c d =
    let t = counts_of r.table in
    ((settled a t 4 0x0f0f_0f0f_0f0f_0f0f && settled b t 8 0x00ff_00ff_00ff_00ff) && settled c t 16
    0x0000_ffff_0000_ffff)
    && settled d t 32 0x0000_0000_ffff_ffff

-- a nibble in every place
abbrev pub repeated : ℕ → ℕ
repeated d = d % 16 * 0x1111_1111_1111_1111

-- where a table varies first, and the table over the bit at that mask setting, if that decides the whole
abbrev pub chosen_at : ℕ → ℕ → ℕ → ℕ → Option (ℕ × ℕ)
chosen_at low x z d =
    cond (eqb x (bit_and (bit_and (x / 2 ^ (z % 4)) 0x1111_1111_1111_1111 * 15) d))
    (Some (z % 4, bit_xor low (bit_and d 0xf0f0_f0f0_f0f0_f0f0)))
    None

abbrev pub chosen_by : ℕ → ℕ → Option (ℕ × ℕ)
chosen_by t low =
    let x = bit_xor t low in
    let z = count_trailing_zeros 64 x in
    cond (eqb x 0) None (chosen_at low x z (repeated (nibble x (z / 4))))

abbrev pub chosen_of : ℕ → Option (ℕ × ℕ)
chosen_of t = chosen_by t (repeated t)

-- the atom of a wire at a mask setting, zero in the first setting of a table's atoms
abbrev pub own_of : ℕ → ℕ → ℕ → ℕ
own_of t w m = 8 * w + (2 * m + bit (lane m t))

abbrev pub leaf_from : Record → ℕ → Option (ℕ × ℕ) → Option Record
leaf_from r w None = None
leaf_from r w (Some (m, u)) = Some (over u (own_of r.table w m))

-- the record of wire w over one atom of its own, if one of its records shows only two nibbles
unfoldable pub leaf_of : Record → ℕ → Option Record
leaf_of r w = cond (leb 268435456 w) None (leaf_from r w (chosen_of r.table))

-- what an atom of a wire is for each setting of a record's atoms
abbrev pub selector_of : ℕ → ℕ → ℕ
selector_of t a = bit_and (bit_xor (t / 2 ^ (a / 2 % 4)) (word 64 (λ j. lane 0 a))) 0x1111_1111_1111_1111

-- whether records show that an atom is another one
unfoldable pub one_atom : Record → ℕ → Record → ℕ → Bool
one_atom r a s b = same_atoms r s && eqb (selector_of r.table a) (selector_of s.table b)
