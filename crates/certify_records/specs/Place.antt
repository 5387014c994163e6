-- The places of a record's table: bits 0 and 1 of a place are the mask setting, bits 2 to 5 the bits of the record's
-- four atoms.
use Rattle.std.specs.Prelude.{ℕ, ◌+◌, ◌-◌, Bool, cond, not, ◌&&◌, eqb, leb}
use Rattle.netlist.specs.Eval.{differs}
use Rattle.netlist.specs.Lists.{below}
use Rattle.evaluate.specs.Lane.{lane, word}

-- atoms j and j + 1 exchanged: which bit of a place comes to bit i
abbrev pub other_bit : ℕ → ℕ → ℕ
other_bit j i = cond (eqb i (j + 2)) (j + 3) (cond (eqb i (j + 3)) (j + 2) i)

-- the place where they are exchanged
abbrev pub exchanged : ℕ → ℕ → ℕ
exchanged j l = word 6 (λ i. lane (other_bit j i) l)

-- the place where atom j has the other bit
abbrev pub turned : ℕ → ℕ → ℕ
turned j l = word 6 (λ i. differs (eqb i (j + 2)) (lane i l))

-- the places marked in `moved` go up by so many, those that they meet come down, and all others stay: that exchanges
-- atoms j and j + 1
abbrev pub exchanges_at : ℕ → ℕ → ℕ → Bool
exchanges_at j by moved =
    below 64 λ l.
    cond (lane l moved) (eqb (exchanged j l) (l + by) && not (leb by l && lane (l - by) moved))
    (cond (leb by l && lane (l - by) moved) (eqb (exchanged j l) (l - by)) (eqb (exchanged j l) l))

-- the places marked in `low` and those so many above them are all places, and differ in atom j alone
abbrev pub turns_at : ℕ → ℕ → ℕ → Bool
turns_at j by low =
    below 64 λ l. cond (lane l low) (eqb (turned j l) (l + by))
    (leb by l && (lane (l - by) low && eqb (turned j l) (l - by)))
