-- What the pass makes of its tables.
use Rattle.std.specs.Prelude.{ℕ, zero, suc, ◌+◌, ◌-◌, ◌*◌, Bool, true, false, cond, List, [], ◌∷◌, eqb, leb, length}
use Rattle.std.specs.Prelude.{get_or, set, replicate, Option, Some, None}
use Rattle.std.specs.Int.Bits.{bit_and, bit_xor}
use Rattle.netlist.specs.declared.Gate.{Gate}
use Rattle.netlist.specs.declared.Gate.TheVariants.{Xor, And, Inv, Eqw, Eq}
use Rattle.masking.specs.Leak.{mask_of}
use Rattle.evaluate.specs.Lane.{lane, word}
use Rattle.gates.specs.declared.Parts.{Parts}
use Rattle.certify_records.specs.declared.Record.{Record}
use Rattle.certify_records.specs.Record.{no_atom, over}
use Rattle.certify_records.specs.Made.{combined, leaf_of}
use Rattle.certify.specs.Store.{atoms_of}
use Rattle.certify.specs.Kept.{put_record, record_if, kept, hinted, clean_by, public_by}

-- the tables of records and of marks, and the hints
pub record State : Type 0 where
  pub records : List ℕ
  pub marks : List ℕ
  pub hints : List ℕ

abbrev pub state : List ℕ → List ℕ → List ℕ → State
state r m h = record { records = r; marks = m; hints = h }

-- a wire is marked, if a record shows that it is clean, or public
abbrev pub shown_clean : List ℕ → ℕ → Record → List ℕ
shown_clean marks w r = cond (clean_by marks r) (set marks w 1) marks

abbrev pub shown_public : List ℕ → ℕ → Record → List ℕ
shown_public marks w r = cond (public_by marks r) (set marks w 3) marks

-- a further record of wire w
abbrev pub added : State → ℕ → Record → State
added s w r =
    state (kept w s.records r) (cond (eqb (bit_and (get_or s.marks w 0) 1) 0) (shown_clean s.marks w r) s.marks) s.hints

abbrev pub added_if : State → ℕ → Option Record → State
added_if s w None = s
added_if s w (Some r) = added s w r

-- what a record of the left operand gives with one of the right one, if there is one
abbrev pub paired_on : State → Parts → Record → Option Record → State
paired_on s g x None = s
paired_on s g x (Some y) = added_if s g.result (combined g.kind x y)

abbrev pub paired : State → Parts → Record → ℕ → State
paired s g x j = paired_on s g x (record_if s.records (5 * g.right + j))

-- with so many of them from the j-th on
abbrev pub row_more : ℕ → ℕ → Parts → Record → State → State
row_more zero j g x s = s
row_more (suc n) j g x s = row_more n (j + 1) g x (paired s g x j)

-- the i-th record of the left operand with those of the right one from a place on; of one wire, with itself only
abbrev pub crossed_on : State → Parts → ℕ → ℕ → Option Record → State
crossed_on s g i from None = s
crossed_on s g i from (Some x) =
    cond (eqb g.left g.right) (cond (leb from i) (paired s g x i) s) (row_more (5 - from) from g x s)

abbrev pub crossed : State → Parts → ℕ → ℕ → State
crossed s g i from = crossed_on s g i from (record_if s.records (5 * g.left + i))

abbrev pub pairs_more : ℕ → ℕ → Parts → State → State
pairs_more zero i g s = s
pairs_more (suc n) i g s = pairs_more n (i + 1) g (crossed s g i 0)

-- all pairs of the operands' records but that of their first ones
abbrev pub all_pairs : State → Parts → State
all_pairs s g = pairs_more 4 1 g (crossed s g 0 1)

-- a leaf that a record gives, and the hints
abbrev pub leaf_and : Record × List ℕ → Option Record × List ℕ
leaf_and (s, h) = (Some s, h)

abbrev pub leafed_on : List ℕ → List ℕ → ℕ → ℕ → Record → Option Record → Option Record × List ℕ
leafed_on records hints w k r None = (None, hints)
leafed_on records hints w k r (Some s) = leaf_and (hinted records hints w k r s)

abbrev pub leafed : List ℕ → List ℕ → ℕ → ℕ → Record → Option Record × List ℕ
leafed records hints w k r = cond (leb (atoms_of r) 1) (Some r, hints) (leafed_on records hints w k r (leaf_of r w))

-- the first record of wire w, from what its operands' first records give
abbrev pub led_on : State → ℕ → Record → Option Record × List ℕ → State
led_on s w r (None, h) = state (put_record s.records (5 * w) r) (shown_clean s.marks w r) h
led_on s w r (Some l, h) =
    state (kept w (put_record s.records (5 * w) l) r) (shown_public (shown_clean s.marks w r) w r) h

abbrev pub led : State → ℕ → Record → State
led s w r = led_on s w r (leafed s.records s.hints w 1 r)

abbrev pub led_if : State → ℕ → Option Record → State
led_if s w None = s
led_if s w (Some r) = led s w r

abbrev pub first_with : State → Parts → Record → Option Record → State
first_with s g x None = s
first_with s g x (Some y) = led_if s g.result (combined g.kind x y)

abbrev pub first_on : State → Parts → Option Record → State
first_on s g None = s
first_on s g (Some x) = first_with s g x (record_if s.records (5 * g.right))

abbrev pub first_of : State → Parts → State
first_of s g = first_on s g (record_if s.records (5 * g.left))

-- a leaf that a further record gives becomes the first record where none stands, otherwise the last
abbrev pub leaf_put : List ℕ → ℕ → Record → Option Record → List ℕ
leaf_put records w l None = put_record records (5 * w) l
leaf_put records w l (Some f) = put_record records (5 * w + 4) l

-- a leaf from a further record, if it gives one; and whether no further one is tried
abbrev pub settled_on : State → ℕ → Record → Option Record × List ℕ → State × Bool
settled_on s w r (None, h) = (state s.records s.marks h, false)
settled_on s w r (Some l, h) =
    (state (leaf_put s.records w l (record_if s.records (5 * w))) (shown_public s.marks w r) h, true)

abbrev pub settled_by : State → ℕ → ℕ → Option Record → State × Bool
settled_by s w k None = (s, true)
settled_by s w k (Some r) = settled_on s w r (leafed s.records s.hints w k r)

abbrev pub settled : State → ℕ → ℕ → State × Bool
settled s w k = settled_by s w k (record_if s.records (5 * w + k))

abbrev pub is_leaf : Option Record → Bool
is_leaf None = false
is_leaf (Some r) = leb (atoms_of r) 1

abbrev pub leaves_rest : (State → State) → State × Bool → State
leaves_rest f (s, true) = s
leaves_rest f (s, false) = f s

abbrev pub leaves_more : ℕ → ℕ → ℕ → State → State
leaves_more zero k w s = s
leaves_more (suc n) k w s = leaves_rest (leaves_more n (k + 1) w) (settled s w k)

-- a leaf of wire w from the first of its further records that gives one, where its first record is none
abbrev pub leaves_of : State → ℕ → State
leaves_of s w = cond (is_leaf (record_if s.records (5 * w))) s (leaves_more 4 1 w s)

-- a gate
unfoldable pub step_of : State → Parts → State
step_of s g = leaves_of (all_pairs (first_of s g) g) g.result

-- a gate's parts: one operand stands for both, and wire 0 for those of a constant
abbrev pub parts_for : Gate → Parts
parts_for (Xor a b c) = record { left = a; right = b; result = c; kind = 1 }
parts_for (And a b c) = record { left = a; right = b; result = c; kind = 2 }
parts_for (Inv a c) = record { left = a; right = a; result = c; kind = 3 }
parts_for (Eqw a c) = record { left = a; right = a; result = c; kind = 4 }
parts_for (Eq v c) = record { left = 0; right = 0; result = c; kind = cond (eqb v 1) 6 5 }

-- gates in order
abbrev pub run_of : State → List Gate → State
run_of s [] = s
run_of s (g ∷ gs) = run_of (step_of s (parts_for g)) gs

-- the word of a code's mask
abbrev pub mask_word : ℕ → ℕ
mask_word code = word 64 (λ j. mask_of (lane 0 j) (lane 1 j) code)

-- the record of input wire i over its own bit, and that of a mask wire
abbrev pub input_record : ℕ → ℕ → Option Record
input_record i code = cond (leb 268435456 i) None (Some (over (bit_xor (mask_word code) 0xf0f0_f0f0_f0f0_f0f0) (8 * i)))

abbrev pub mask_record : ℕ → Record
mask_record code = over (mask_word code) no_atom

-- an input wire gets its record
abbrev pub given : State → ℕ → Record → State
given s w r = state (put_record s.records (5 * w) r) (shown_clean s.marks w r) s.hints

abbrev pub given_if : State → ℕ → Option Record → State
given_if s w None = s
given_if s w (Some r) = given s w r

-- a public one is marked so
abbrev pub opened : State → ℕ → ℕ → State
opened s i code = cond (eqb code 0) (state s.records (set s.marks i 3) s.hints) s

abbrev pub input_of : State → ℕ → ℕ → State
input_of s i code = opened (given_if s i (input_record i code)) i code

abbrev pub inputs_to : List ℕ → ℕ → State → State
inputs_to codes zero s = s
inputs_to codes (suc i) s = input_of (inputs_to codes i s) i (get_or codes i 0)

-- all input wires: those of the codes, then the mask pair
abbrev pub inputs_of : List ℕ → State → State
inputs_of codes s =
    let n = length codes in
    given (given (inputs_to codes n s) n (mask_record 1)) (n + 1) (mask_record 2)

-- the pass over gates on so many wires, under input codes, with so many hints
unfoldable pub passed : ℕ → ℕ → List ℕ → List Gate → State
passed wires hints codes gates
    = run_of (inputs_of codes (state (replicate (15 * wires) 0) (replicate wires 0) (replicate hints 0))) gates
