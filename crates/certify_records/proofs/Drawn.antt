-- Records over at most two atoms, by the places of these.
use mathlib.Core.Bool.{Bool, true, false, cond, not, ◌&&◌, ◌||◌}
use Prim.Native.Nat.{ℕ}
use lib.Dec.{T, eqb}
use lib.Count.{count_trailing_zeros}
use Rattle.std.specs.Prelude.{Option, Some, None}
use Rattle.masking.specs.Leak.{mask_of}
use Rattle.netlist.specs.Eval.{differs}
use Rattle.masking.specs.Mask.{third}
use Rattle.netlist.proofs.EachNumber.{every_bit}
use Rattle.masking.proofs.CodeLaws.{every_two, every_code}
use Rattle.evaluate.specs.Lane.{lane, word}
use Rattle.certify_records.specs.Made.{exchange_of, made_table, free_of, counts_of, chosen_of}

-- the lower atom, the higher one, and none
pub data Spot : Type 0 where
  lower : Spot
  higher : Spot
  nowhere : Spot

abbrev pub before : Spot → Spot → Bool
before lower lower = false
before lower higher = true
before lower nowhere = true
before higher lower = false
before higher higher = false
before higher nowhere = true
before nowhere y = false

abbrev pub same_spot : Spot → Spot → Bool
same_spot lower lower = true
same_spot lower higher = false
same_spot lower nowhere = false
same_spot higher lower = false
same_spot higher higher = true
same_spot higher nowhere = false
same_spot nowhere lower = false
same_spot nowhere higher = false
same_spot nowhere nowhere = true

abbrev pub is_nowhere : Spot → Bool
is_nowhere lower = false
is_nowhere higher = false
is_nowhere nowhere = true

pub record Drawn : Type 0 where
  pub table : ℕ
  pub first : Spot
  pub second : Spot
  pub third : Spot
  pub fourth : Spot

abbrev pub drawn : ℕ → Spot → Spot → Spot → Spot → Drawn
drawn t a b c d = record { table = t; first = a; second = b; third = c; fourth = d }

abbrev pub low' : Drawn → Drawn
low' r = drawn (exchange_of r.table 4 0x00f0_00f0_00f0_00f0) r.second r.first r.third r.fourth

abbrev pub middle' : Drawn → Drawn
middle' r = drawn (exchange_of r.table 8 0x0000_ff00_0000_ff00) r.first r.third r.second r.fourth

abbrev pub high' : Drawn → Drawn
high' r = drawn (exchange_of r.table 16 0x0000_0000_ffff_0000) r.first r.second r.fourth r.third

abbrev pub align' : (Drawn → Drawn) → Drawn → Drawn → Spot → Spot → Drawn × Drawn
align' room x y a b = cond (before a b) (x, room y) (cond (before b a) (room x, y) (x, y))

abbrev pub second' : Drawn × Drawn → Drawn × Drawn
second' p = align' (λ r. middle' (high' r)) p.0 p.1 p.0.second p.1.second

abbrev pub third' : Drawn × Drawn → Drawn × Drawn
third' p = align' high' p.0 p.1 p.0.third p.1.third

abbrev pub aligned' : Drawn → Drawn → Drawn × Drawn
aligned' x y = third' (second' (align' (λ r. low' (middle' (high' r))) x y x.first y.first))

abbrev pub one' : Spot → Spot → Option Spot
one' a b = cond (is_nowhere a) (Some b) (cond (is_nowhere b || same_spot a b) (Some a) None)

abbrev pub record' : ℕ → Option Spot → Option Spot → Option Spot → Option Spot → Option Drawn
record' t None b c d = None
record' t (Some p) None c d = None
record' t (Some p) (Some q) None d = None
record' t (Some p) (Some q) (Some u) None = None
record' t (Some p) (Some q) (Some u) (Some v) = Some (drawn t p q u v)

abbrev pub meet' : ℕ → Drawn → Drawn → Option Drawn
meet' kind x y = record' (made_table kind x.table y.table) (one' x.first y.first) (one' x.second y.second)
    (one' x.third y.third) (one' x.fourth y.fourth)

abbrev pub without' : Drawn → Spot → ℕ → ℕ → Drawn → Drawn
without' r atom up low left = cond (not (is_nowhere atom) && free_of r.table up low) left r

abbrev pub without_fourth' : Drawn → Drawn
without_fourth' r = without' r r.fourth 32 0x0000_0000_ffff_ffff (drawn r.table r.first r.second r.third nowhere)

abbrev pub without_third' : Drawn → Drawn
without_third' r = without' r r.third 16 0x0000_ffff_0000_ffff (high' (drawn r.table r.first r.second nowhere r.fourth))

abbrev pub without_second' : Drawn → Drawn
without_second' r = without' r r.second 8 0x00ff_00ff_00ff_00ff
    (high' (middle' (drawn r.table r.first nowhere r.third r.fourth)))

abbrev pub without_first' : Drawn → Drawn
without_first' r = without' r r.first 4 0x0f0f_0f0f_0f0f_0f0f
    (high' (middle' (low' (drawn r.table nowhere r.second r.third r.fourth))))

abbrev pub reduced' : Drawn → Drawn
reduced' r = without_first' (without_second' (without_third' (without_fourth' r)))

abbrev pub reduced_if' : Option Drawn → Option Drawn
reduced_if' None = None
reduced_if' (Some r) = Some (reduced' r)

abbrev pub combined' : ℕ → Drawn → Drawn → Option Drawn
combined' kind x y = let p = aligned' x y in reduced_if' (meet' kind p.0 p.1)

-- tests of records
abbrev pub counts_free : ℕ → ℕ → ℕ → Bool
counts_free t up low = free_of (counts_of t) up low

abbrev pub even' : Drawn → Bool
even' r =
    ((counts_free r.table 4 0x0f0f_0f0f_0f0f_0f0f && counts_free r.table 8 0x00ff_00ff_00ff_00ff) && counts_free r.table
    16 0x0000_ffff_0000_ffff)
    && counts_free r.table 32 0x0000_0000_ffff_ffff

abbrev pub few' : Drawn → Bool
few' r = is_nowhere r.fourth && (is_nowhere r.third && is_nowhere r.second)

-- a masked bit as a leaf: whether it is turned, and where its atom is
abbrev pub leaf_table : ℕ → Bool → Bool → ℕ
leaf_table e turned atom = word 64 (λ l. differs (differs turned (atom && lane 2 l)) (mask_of (lane 0 l) (lane 1 l) e))

abbrev pub leaf' : ℕ → Bool → Spot → Drawn
leaf' e turned x = drawn (leaf_table e turned (not (is_nowhere x))) x nowhere nowhere nowhere

-- what stands where none is
abbrev pub void : Drawn
void = drawn 0 nowhere nowhere nowhere nowhere

abbrev pub of_if : Option Drawn → Drawn
of_if None = void
of_if (Some r) = r

abbrev pub is_there : Option Drawn → Bool
is_there None = false
is_there (Some r) = true

abbrev pub made' : ℕ → Drawn → Drawn → Drawn
made' kind x y = of_if (combined' kind x y)

-- there is such a record, its counts are equal, and its first two atoms are not both 0
abbrev pub fine : ℕ → Drawn → Drawn → Bool
fine kind x y = is_there (combined' kind x y) && (even' (made' kind x y) && not
    (same_spot (made' kind x y).second lower))

abbrev pub none_chosen : Option (ℕ × ℕ) → Bool
none_chosen None = true
none_chosen (Some p) = false

-- it stays a wire's first record
abbrev pub stays : Drawn → Bool
stays r = few' r || none_chosen (chosen_of r.table)

abbrev pub chosen_leaf : ℕ → Option (ℕ × ℕ) → Bool
chosen_leaf e None = false
chosen_leaf e (Some (m, u)) = eqb u (leaf_table e false true) || eqb u (leaf_table e true true)

abbrev pub few_leaf : ℕ → Drawn → Bool
few_leaf e r =
    eqb r.table (leaf_table e false (not (is_nowhere r.first))) || eqb r.table
    (leaf_table e true (not (is_nowhere r.first)))

-- a wire's first record is a masked bit under code e
abbrev pub ends : ℕ → Drawn → Bool
ends e r = cond (few' r) (few_leaf e r) (chosen_leaf e (chosen_of r.table))

abbrev pub every_spot : (Spot → Bool) → Bool
every_spot p = p lower && (p higher && p nowhere)

-- a sum of masked bits
abbrev pub sum_test : ℕ → ℕ → Bool → Bool → Spot → Spot → Bool
sum_test e f s t x y = fine 1 (leaf' e s x) (leaf' f t y) && ends (third e f) (made' 1 (leaf' e s x) (leaf' f t y))

pub sums : T (every_two λ e f. every_bit λ s. every_bit λ t. every_spot λ x. every_spot λ y. sum_test e f s t x y)
unfolding count_trailing_zeros
sums = tt

-- a copy or an inverse of a masked bit
abbrev pub copy_test : ℕ → Bool → Spot → Bool
copy_test e s x =
    (fine 3 (leaf' e s x) (leaf' e s x) && ends e (made' 3 (leaf' e s x) (leaf' e s x)))
    && (fine 4 (leaf' e s x) (leaf' e s x) && ends e (made' 4 (leaf' e s x) (leaf' e s x)))

pub copies : T (every_code λ e. every_bit λ s. every_spot λ x. copy_test e s x)
unfolding count_trailing_zeros
copies = tt

-- the mask wires, their product and their OR
abbrev pub mask' : ℕ → Drawn
mask' e = leaf' e false nowhere

abbrev pub product' : Drawn
product' = drawn (word 64 (λ l. lane 0 l && lane 1 l)) nowhere nowhere nowhere nowhere

abbrev pub or' : Drawn
or' = drawn (word 64 (λ l. lane 0 l || lane 1 l)) nowhere nowhere nowhere nowhere

abbrev pub is_table : Drawn → Drawn → Bool
is_table r s = few' r && (is_nowhere r.first && eqb r.table s.table)

abbrev pub mask_test : Bool
mask_test =
    (fine 1 (mask' 1) (mask' 2) && is_table (made' 1 (mask' 1) (mask' 2)) (mask' 3))
    && ((fine 2 (mask' 1) (mask' 2) && is_table (made' 2 (mask' 1) (mask' 2)) product') &&
    (fine 1 (mask' 3) product' && is_table (made' 1 (mask' 3) product') or'))

pub mask-wires : T mask_test
mask-wires = tt

-- a public bit, and it under the first mask
abbrev pub public' : Drawn
public' = drawn (word 64 (λ l. lane 2 l)) lower nowhere nowhere nowhere

pub publics : T (fine 1 public' (mask' 1) && ends 1 (made' 1 public' (mask' 1)))
unfolding count_trailing_zeros
publics = tt

-- the seven steps of a masked AND
module _ (e f : ℕ) (s t : Bool) (x y : Spot) where
  abbrev pub left' : Drawn
  left' = leaf' e s x

  abbrev pub right' : Drawn
  right' = leaf' f t y

  abbrev pub s1 : Drawn
  s1 = made' 2 left' right'

  abbrev pub s2 : Drawn
  s2 = made' 2 left' (mask' f)

  abbrev pub s3 : Drawn
  s3 = made' 1 s2 (mask' f)

  abbrev pub s4 : Drawn
  s4 = made' 1 s1 s3

  abbrev pub s5 : Drawn
  s5 = made' 2 (mask' e) right'

  abbrev pub s6 : Drawn
  s6 = made' 1 s5 or'

  abbrev pub s7 : Drawn
  s7 = made' 1 s4 s6

  abbrev pub and_test : Bool
  and_test =
      (fine 2 left' right' && stays s1)
      && ((fine 2 left' (mask' f) && stays s2)
      && ((fine 1 s2 (mask' f) && stays s3)
      && ((fine 1 s1 s3 && stays s4)
      && ((fine 2 (mask' e) right' && stays s5)
      && ((fine 1 s5 or' && stays s6)
      && (fine 1 s4 s6 && ends e s7))))))

abbrev pub product_tests : ℕ → ℕ → Bool → Bool
product_tests e f s = every_bit λ t. every_spot λ x. every_spot λ y. and_test e f s t x y
