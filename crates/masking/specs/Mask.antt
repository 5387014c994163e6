-- How a source becomes a masked netlist (docs/RULES.md, Mask codes and public bits; Masking a source).
use Rattle.std.specs.Prelude.{ℕ, ◌+◌, ◌-◌, ◌%◌, Bool, true, false, cond, ◌&&◌, List, [], ◌∷◌, ◌++◌, eqb, leb, get_or}
use Rattle.std.specs.Prelude.{set, drop, replicate}
use Rattle.std.specs.Int.Bits.{bit_xor}
use Rattle.netlist.specs.declared.Gate.{Gate}
use Rattle.netlist.specs.declared.Gate.TheVariants.{Xor, And, Inv, Eqw, Eq}
use Rattle.netlist.specs.declared.Twin.{Twin}
use Rattle.netlist.specs.Netlist.{Netlist, input_bits, output_bits, result}

-- a mask code: 1 is m0, 2 is m1, 3 their sum
abbrev pub is_code : ℕ → Bool
is_code e = leb 1 e && leb e 3

-- a code of the input list: 0 is a public bit, which arrives unmasked
abbrev pub is_input_code : ℕ → Bool
is_input_code e = leb e 3

-- a wanted code: 0 is the code as it falls
abbrev pub is_wanted : ℕ → Bool
is_wanted e = leb e 3

-- the third code of two different codes: their XOR, as the masks of codes 1 and 2 are m0 and m1 and that of 3 is their
-- sum
abbrev pub third : ℕ → ℕ → ℕ
third e f = bit_xor e f

-- the code after a code: 1 to 2, 2 to 3, 3 to 1
abbrev pub after : ℕ → ℕ
after e = e % 3 + 1

-- the mask wire of a code, with the source's n input bits: n, n + 1 and n + 2
abbrev pub mask_wire : ℕ → ℕ → ℕ
mask_wire n e = n + (e - 1)

-- a step of the masked AND: its operation, and the places of its operands.
-- Places 0 to 4 are A, B, P, Q and wire n + 4; 5 to 11 are s1 to s7
pub record Row : Type 0 where
  pub is_and : Bool
  pub first : ℕ
  pub second : ℕ

abbrev pub row : Bool → ℕ → ℕ → Row
row o a b = record { is_and = o; first = a; second = b }

-- the seven steps (docs/RULES.md, Masking a source)
abbrev pub rows : List Row
rows =
    row true 0 1
    ∷ row true 0 3
    ∷ row false 6 3
    ∷ row false 5 7
    ∷ row true 2 1
    ∷ row false 9 4
    ∷ row false 8 10
    ∷ []

abbrev pub row_gate : Row → List ℕ → ℕ → Gate
row_gate r places c =
    cond r.is_and
    (And (get_or places r.first 0) (get_or places r.second 0) c)
    (Xor (get_or places r.first 0) (get_or places r.second 0) c)

-- the rows' gates at the wires from c on; each new wire is the next place
abbrev pub row_gates : List Row → List ℕ → ℕ → List Gate
row_gates [] places c = []
row_gates (r ∷ rs) places c = row_gate r places c ∷ row_gates rs (places ++ (c ∷ [])) (c + 1)

-- whether the second operand's mask is changed first: the codes are equal
abbrev pub changes : Twin → Twin → Bool
changes A B = eqb A.code B.code

-- the gate of the mask change at wire c, if there is one
abbrev pub change_gates : ℕ → ℕ → Twin → Twin → List Gate
change_gates n c A B = cond (changes A B) (Xor B.wire (mask_wire n (after B.code)) c ∷ []) []

-- the second operand after it
abbrev pub changed : ℕ → Twin → Twin → Twin
changed c A B = cond (changes A B) (record { wire = c; code = third B.code (after B.code) }) B

-- the next wire after it
abbrev pub past : ℕ → Twin → Twin → ℕ
past c A B = cond (changes A B) (c + 1) c

-- XOR: one XOR gate, with the code that neither operand has
abbrev pub xor_gates : ℕ → ℕ → Twin → Twin → List Gate
xor_gates n c A B = change_gates n c A B ++ (Xor A.wire (changed c A B).wire (past c A B) ∷ [])

abbrev pub xor_twin : ℕ → Twin → Twin → Twin
xor_twin c A B = record { wire = past c A B; code = third A.code (changed c A B).code }

-- AND: the seven steps, with A's code
abbrev pub and_gates : ℕ → ℕ → Twin → Twin → List Gate
and_gates n c A B =
    let B' = changed c A B in
    change_gates n c A B ++ row_gates rows (A.wire ∷ B'.wire ∷ mask_wire n A.code ∷ mask_wire n B'.code ∷ (n + 4) ∷ [])
    (past c A B)

abbrev pub and_twin : ℕ → Twin → Twin → Twin
and_twin c A B = record { wire = past c A B + 6; code = A.code }

-- the masker's state: the next wire, and the twin of each source wire
pub record State : Type 0 where
  pub next : ℕ
  pub twins : List Twin

abbrev pub no_twin : Twin
no_twin = record { wire = 0; code = 0 }

abbrev pub twin : State → ℕ → Twin
twin S w = get_or S.twins w no_twin

-- the masked gates of a source gate
abbrev pub emit : ℕ → State → Gate → List Gate
emit n S (Xor a b c) = xor_gates n S.next (twin S a) (twin S b)
emit n S (And a b c) = and_gates n S.next (twin S a) (twin S b)
emit n S (Inv a c) = Inv (twin S a).wire S.next ∷ []
emit n S (Eqw a c) = Eqw (twin S a).wire S.next ∷ []
emit n S (Eq v c) = cond (eqb v 0) (Eqw n S.next) (Inv n S.next) ∷ []

-- the twin of its result
abbrev pub result_twin : State → Gate → Twin
result_twin S (Xor a b c) = xor_twin S.next (twin S a) (twin S b)
result_twin S (And a b c) = and_twin S.next (twin S a) (twin S b)
result_twin S (Inv a c) = record { wire = S.next; code = (twin S a).code }
result_twin S (Eqw a c) = record { wire = S.next; code = (twin S a).code }
result_twin S (Eq v c) = record { wire = S.next; code = 1 }

-- the state after it
abbrev pub advance : State → Gate → State
advance S g = record { next = (result_twin S g).wire + 1; twins = set S.twins (result g) (result_twin S g) }

-- the source gates in order
abbrev pub emit_all : ℕ → State → List Gate → List Gate
emit_all n S [] = []
emit_all n S (g ∷ gs) = emit n S g ++ emit_all n (advance S g) gs

abbrev pub advance_all : State → List Gate → State
advance_all S [] = S
advance_all S (g ∷ gs) = advance_all (advance S g) gs

-- whether an input bit is public
abbrev pub is_public : ℕ → Bool
is_public e = eqb e 0

-- the gate of input w, where it is public, at wire c: that wire XOR m0
abbrev pub public_gate : ℕ → ℕ → ℕ → ℕ → List Gate
public_gate n c w e = cond (is_public e) (Xor w n c ∷ []) []

-- the input's twin: that gate's wire, with code 1; otherwise the same wire, with its code of the input list
abbrev pub input_twin : ℕ → ℕ → ℕ → Twin
input_twin c w e = cond (is_public e) (record { wire = c; code = 1 }) (record { wire = w; code = e })

-- the next wire after it
abbrev pub past_public : ℕ → ℕ → ℕ
past_public c e = cond (is_public e) (c + 1) c

-- one gate for each public bit in input order, at the wires from c on; the inputs from w on
abbrev pub public_gates : ℕ → ℕ → ℕ → List ℕ → List Gate
public_gates n c w [] = []
public_gates n c w (e ∷ es) = public_gate n c w e ++ public_gates n (past_public c e) (w + 1) es

abbrev pub input_twins : ℕ → ℕ → List ℕ → List Twin
input_twins c w [] = []
input_twins c w (e ∷ es) = input_twin c w e ∷ input_twins (past_public c e) (w + 1) es

abbrev pub past_publics : ℕ → List ℕ → ℕ
past_publics c [] = c
past_publics c (e ∷ es) = past_publics (past_public c e) es

-- the three gates that always follow the inputs: the sum, the product and the OR of the masks
abbrev pub mask_gates : ℕ → List Gate
mask_gates n = Xor n (n + 1) (n + 2) ∷ And n (n + 1) (n + 3) ∷ Xor (n + 2) (n + 3) (n + 4) ∷ []

-- the state after them and the gates of the public bits
abbrev pub start : Netlist → List ℕ → State
start N codes =
    let c = input_bits N + 5 in
    record { next = past_publics c codes; twins = input_twins c 0 codes ++ replicate (N.wires - input_bits N) no_twin }

-- the gate of an output bit at wire c
abbrev pub out_gate : ℕ → ℕ → Twin → ℕ → Gate
out_gate n c t want =
    cond (eqb want 0) (Eqw t.wire c)
    (cond (eqb want t.code) (Eqw t.wire c)
    (Xor t.wire (mask_wire n (third t.code want)) c))

-- its code
abbrev pub out_code : ℕ → ℕ → ℕ
out_code e want = cond (eqb want 0) e want

-- one gate for each output bit in order, at the wires from c on
abbrev pub out_gates : ℕ → ℕ → List Twin → List ℕ → List Gate
out_gates n c [] ws = []
out_gates n c (t ∷ ts) [] = []
out_gates n c (t ∷ ts) (w ∷ ws) = out_gate n c t w ∷ out_gates n (c + 1) ts ws

abbrev pub out_codes : List Twin → List ℕ → List ℕ
out_codes [] ws = []
out_codes (t ∷ ts) [] = []
out_codes (t ∷ ts) (w ∷ ws) = out_code t.code w ∷ out_codes ts ws

-- the masked netlist, and the code of each output bit
pub record Masked : Type 0 where
  pub netlist : Netlist
  pub codes : List ℕ

-- the state after all source gates
abbrev pub finish : Netlist → List ℕ → State
finish N codes = advance_all (start N codes) N.gates

-- the twins of the output bits, which are the last source wires
abbrev pub out_twins : Netlist → List ℕ → List Twin
out_twins N codes = drop (N.wires - output_bits N) (finish N codes).twins

-- the source with the codes of its inputs and the wanted codes of its outputs
unfoldable pub mask_netlist : Netlist → List ℕ → List ℕ → Masked
mask_netlist N codes wanted =
    let n = input_bits N in
    let end = (finish N codes).next in
    record {
      netlist = record {
        wires = end + output_bits N;
        inputs = N.inputs ++ (2 ∷ []);
        outputs = N.outputs;
        gates = mask_gates n ++ public_gates n (n + 5) 0 codes ++ emit_all n (start N codes) N.gates
            ++ out_gates n end (out_twins N codes) wanted;
      };
      codes = out_codes (out_twins N codes) wanted;
    }
