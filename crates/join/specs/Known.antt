-- Joins worked out by hand: calls with all that they are handed, and their outcomes.
use Rattle.std.specs.Prelude.{ℕ, List, [], ◌∷◌, map, ◌≡◌}
use Prim.Native.String.{String}
use Rattle.netlist.specs.declared.Sizes.TheVariants.{Standard}
use Rattle.netlist.specs.Lists.{ascii}
use Rattle.netlist.specs.Netlist.{masked_limits}
use Rattle.netlist.specs.Outcome.{Outcome, refused, done}
use Rattle.join.specs.Call.{join_call}

-- the first text with its input and output codes, the second with its input codes, the buffer's length, and the outcome
pub record Known : Type 0 where
  pub first : String
  pub codes : List ℕ
  pub out_codes : List ℕ
  pub second : String
  pub inner : List ℕ
  pub room : ℕ
  pub outcome : Outcome (List ℕ)

abbrev pub known : String → List ℕ → List ℕ → String → List ℕ → ℕ → Outcome (List ℕ) → Known
known a codes out_codes b inner room o = record {
  first = a;
  codes = codes;
  out_codes = out_codes;
  second = b;
  inner
      = inner;
  room = room;
  outcome = o;
}

-- five tables as short as question 1 admits
abbrev pub tables : List ℕ
tables = 18431 ∷ 18431 ∷ 18431 ∷ 18431 ∷ 18431 ∷ []

-- every call has its outcome
abbrev pub AllKnown : List Known → Type 0
AllKnown ks = map (λ k. join_call (masked_limits Standard) tables (ascii k.first) k.codes k.out_codes (ascii k.second)
    k.inner k.room) ks ≡ map (λ k. k.outcome) ks

-- a masked wire (M3 of docs/RULES.md, Known results) and a masked inverter, both under code 2
abbrev pub copy : String
copy = "4 7\n2 1 2\n1 1\n\n2 1 1 2 3 XOR\n2 1 1 2 4 AND\n2 1 3 4 5 XOR\n1 1 0 6 EQW\n"

abbrev pub inverter : String
inverter = "5 8\n2 1 2\n1 1\n\n2 1 1 2 3 XOR\n2 1 1 2 4 AND\n2 1 3 4 5 XOR\n1 1 0 6 INV\n1 1 6 7 EQW\n"

-- joined: the second's input is wire 6, its mask pair wires 1 and 2, and its wires 3 to 7 become 7 to 11; 139 bytes
abbrev pub both : String
both = "9 12\n2 1 2\n1 1\n\n2 1 1 2 3 XOR\n2 1 1 2 4 AND\n2 1 3 4 5 XOR\n1 1 0 6 EQW\n2 1 1 2 7 XOR\n2 1 1 2 8 AND\n2 1 7 8 9 XOR\n1 1 6 10 INV\n1 1 10 11 EQW\n"

-- two input bits besides the mask pair; no gate at all; one gate and two output bits; no mask pair
abbrev pub two_bits : String
two_bits = "2 6\n2 2 2\n1 1\n\n2 1 0 1 4 XOR\n2 1 2 3 5 XOR\n"

abbrev pub no_gate : String
no_gate = "0 3\n2 1 2\n1 1\n"

abbrev pub one_gate : String
one_gate = "1 4\n2 1 2\n1 2\n\n1 1 0 3 EQW\n"

abbrev pub no_pair : String
no_pair = "1 4\n2 2 1\n1 1\n\n2 1 0 1 3 XOR\n"

abbrev pub two : List ℕ
two = 2 ∷ []

-- into a buffer that just holds the text, and one a byte shorter; outputs of the first that are its input and its mask
-- pair, with EQ constants in both texts; the ways to 25: output codes that are not one for each output bit, too few for
-- the second, other codes, an output code that is none, a public bit, no gate, fewer gates than output bits; the order:
-- 10 and 11 of the first before the second's text, the second's 4, 10 and 11 before 25, 25 before 14
abbrev pub rows : List Known
rows =
    known copy two two inverter two 139 (done (ascii both))
    ∷ known copy two two inverter two 138 (refused 14)
    ∷ known "1 4\n2 1 2\n2 1 3\n\n1 1 1 3 EQ\n" (1 ∷ []) (1 ∷ 1 ∷ 2 ∷ 3 ∷ [])
    "3 9\n3 1 3 2\n1 3\n\n1 1 0 6 EQ\n2 1 0 5 7 XOR\n2 1 1 3 8 AND\n" (1 ∷ 1 ∷ 2 ∷ 3 ∷ []) 100
    (done (ascii "4 7\n2 1 2\n1 3\n\n1 1 1 3 EQ\n1 1 0 4 EQ\n2 1 0 2 5 XOR\n2 1 1 3 6 AND\n"))
    ∷ known copy two (2 ∷ 2 ∷ []) two_bits (2 ∷ 2 ∷ []) 200 (refused 25)
    ∷ known copy two two two_bits (2 ∷ 2 ∷ []) 200 (refused 25)
    ∷ known copy two two inverter (3 ∷ []) 200 (refused 25)
    ∷ known copy two (255 ∷ []) inverter two 200 (refused 25)
    ∷ known copy two (0 ∷ []) inverter (0 ∷ []) 200 (refused 25)
    ∷ known copy two two no_gate two 200 (refused 25)
    ∷ known copy two two one_gate two 200 (refused 25)
    ∷ known no_pair [] [] "" [] 200 (refused 10)
    ∷ known copy (4 ∷ []) [] "" [] 200 (refused 11)
    ∷ known copy two (3 ∷ []) "" (9 ∷ []) 200 (refused 4)
    ∷ known copy two (3 ∷ []) no_pair (9 ∷ []) 200 (refused 10)
    ∷ known copy two (3 ∷ []) inverter (2 ∷ 2 ∷ []) 200 (refused 11)
    ∷ known copy two (3 ∷ []) inverter two 0 (refused 25)
    ∷ []
