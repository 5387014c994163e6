-- The two tables for codes of docs/RULES.md, Mask codes and public bits, and the masking steps with the codes looked up
-- in them.
use Rattle.std.specs.Prelude.{ℕ, ◌+◌, ◌-◌, cond, List, [], ◌∷◌, ◌++◌, eqb, get_or, set, drop}
use Rattle.netlist.specs.declared.Gate.{Gate}
use Rattle.netlist.specs.declared.Gate.TheVariants.{Xor, And, Inv, Eqw, Eq}
use Rattle.netlist.specs.declared.Twin.{Twin}
use Rattle.netlist.specs.Netlist.{Netlist, input_bits, output_bits, result}
use Rattle.masking.specs.Mask.{mask_wire, rows, row_gates, changes, past, State, twin, emit, result_twin, public_gates}
use Rattle.masking.specs.Mask.{mask_gates, start, out_codes, Masked}

-- ---- the tables, a row for each first code

abbrev pub third_table : ℕ → ℕ → ℕ
third_table e f = get_or (get_or ((0 ∷ 0 ∷ 0 ∷ 0 ∷ []) ∷ (0 ∷ 0 ∷ 3 ∷ 2 ∷ []) ∷ (0 ∷ 3 ∷ 0 ∷ 1 ∷ []) ∷
    (0 ∷ 2 ∷ 1 ∷ 0 ∷ []) ∷ []) e []) f 0

abbrev pub after_table : ℕ → ℕ
after_table e = get_or (0 ∷ 2 ∷ 3 ∷ 1 ∷ []) e 0

-- ---- the masking steps with the codes looked up

abbrev pub change_gates_by_tables : ℕ → ℕ → Twin → Twin → List Gate
change_gates_by_tables n c A B = cond (changes A B) (Xor B.wire (mask_wire n (after_table B.code)) c ∷ []) []

abbrev pub changed_by_tables : ℕ → Twin → Twin → Twin
changed_by_tables c A B = cond (changes A B) (record { wire = c; code = third_table B.code (after_table B.code) }) B

abbrev pub xor_gates_by_tables : ℕ → ℕ → Twin → Twin → List Gate
xor_gates_by_tables n c A B = change_gates_by_tables n c A B
    ++ (Xor A.wire (changed_by_tables c A B).wire (past c A B) ∷ [])

abbrev pub xor_twin_by_tables : ℕ → Twin → Twin → Twin
xor_twin_by_tables c A B = record { wire = past c A B; code = third_table A.code (changed_by_tables c A B).code }

abbrev pub and_gates_by_tables : ℕ → ℕ → Twin → Twin → List Gate
and_gates_by_tables n c A B =
    let B' = changed_by_tables c A B in
    change_gates_by_tables n c A B ++ row_gates rows
    (A.wire ∷ B'.wire ∷ mask_wire n A.code ∷ mask_wire n B'.code ∷ (n + 4) ∷ []) (past c A B)

abbrev pub emit_by_tables : ℕ → State → Gate → List Gate
emit_by_tables n S (Xor a b c) = xor_gates_by_tables n S.next (twin S a) (twin S b)
emit_by_tables n S (And a b c) = and_gates_by_tables n S.next (twin S a) (twin S b)
emit_by_tables n S (Inv a c) = emit n S (Inv a c)
emit_by_tables n S (Eqw a c) = emit n S (Eqw a c)
emit_by_tables n S (Eq v c) = emit n S (Eq v c)

abbrev pub result_twin_by_tables : State → Gate → Twin
result_twin_by_tables S (Xor a b c) = xor_twin_by_tables S.next (twin S a) (twin S b)
result_twin_by_tables S (And a b c) = result_twin S (And a b c)
result_twin_by_tables S (Inv a c) = result_twin S (Inv a c)
result_twin_by_tables S (Eqw a c) = result_twin S (Eqw a c)
result_twin_by_tables S (Eq v c) = result_twin S (Eq v c)

abbrev pub advance_by_tables : State → Gate → State
advance_by_tables S g = record {
  next = (result_twin_by_tables S g).wire + 1;
  twins = set S.twins (result g) (result_twin_by_tables S g);
}

abbrev pub emit_all_by_tables : ℕ → State → List Gate → List Gate
emit_all_by_tables n S [] = []
emit_all_by_tables n S (g ∷ gs) = emit_by_tables n S g ++ emit_all_by_tables n (advance_by_tables S g) gs

abbrev pub advance_all_by_tables : State → List Gate → State
advance_all_by_tables S [] = S
advance_all_by_tables S (g ∷ gs) = advance_all_by_tables (advance_by_tables S g) gs

abbrev pub out_gate_by_tables : ℕ → ℕ → Twin → ℕ → Gate
out_gate_by_tables n c t want =
    cond (eqb want 0) (Eqw t.wire c)
    (cond (eqb want t.code) (Eqw t.wire c)
    (Xor t.wire (mask_wire n (third_table t.code want)) c))

abbrev pub out_gates_by_tables : ℕ → ℕ → List Twin → List ℕ → List Gate
out_gates_by_tables n c [] ws = []
out_gates_by_tables n c (t ∷ ts) [] = []
out_gates_by_tables n c (t ∷ ts) (w ∷ ws) = out_gate_by_tables n c t w ∷ out_gates_by_tables n (c + 1) ts ws

-- the twins of the output bits
abbrev pub output_twins : Netlist → State → List Twin
output_twins N S = drop (N.wires - output_bits N) S.twins

-- a masked netlist: the state after the source gates, their masked gates, and the gates of the outputs
abbrev pub assembled : Netlist → List ℕ → List ℕ → State → List Gate → List Gate → Masked
assembled N codes wanted S gates outs =
    let n = input_bits N in
    record {
      netlist = record {
        wires = S.next + output_bits N;
        inputs = N.inputs ++ (2 ∷ []);
        outputs = N.outputs;
        gates = mask_gates n ++ public_gates n (n + 5) 0 codes ++ gates ++ outs;
      };
      codes = out_codes (output_twins N S) wanted;
    }

-- the masked netlist by the two tables
unfoldable pub mask_netlist_by_tables : Netlist → List ℕ → List ℕ → Masked
mask_netlist_by_tables N codes wanted =
    let n = input_bits N in
    let S = advance_all_by_tables (start N codes) N.gates in
    assembled N codes wanted S (emit_all_by_tables n (start N codes) N.gates)
    (out_gates_by_tables n S.next (output_twins N S) wanted)
