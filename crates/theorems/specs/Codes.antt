-- What is said of codes (docs/RULES.md, Mask codes and public bits).
use Rattle.std.specs.Prelude.{ℕ, Bool, not, List, ◌≡◌, T, eqb}
use Rattle.netlist.specs.Netlist.{Netlist, input_bits, output_bits}
use Rattle.netlist.specs.Eval.{differs}
use Rattle.netlist.specs.Read.{WellFormed}
use Rattle.netlist.specs.Services.{list_good}
use Rattle.masking.specs.Mask.{is_code, is_input_code, is_wanted, third, after, mask_netlist}
use Rattle.masking.specs.Leak.{mask_of}
use Rattle.theorems.specs.CodeTables.{third_table, after_table, mask_netlist_by_tables}

-- the third code of two different codes is the one that the table gives
abbrev pub ThirdAsTold : Type 0
ThirdAsTold = (e f : ℕ) → T (is_code e) → T (is_code f) → T (not (eqb e f)) → third e f ≡ third_table e f

-- the code after a code is the one that the table gives
abbrev pub AfterAsTold : Type 0
AfterAsTold = (e : ℕ) → T (is_code e) → after e ≡ after_table e

-- a source masked by the tables is the source masked by the formulas, under all that questions 4 to 9, 11 and 13 admit
abbrev pub SameByTables : Type 0
SameByTables =
    (N : Netlist) (codes wanted : List ℕ) → WellFormed N → T (list_good is_input_code (input_bits N) codes)
    → T (list_good is_wanted (output_bits N) wanted)
    → mask_netlist_by_tables N codes wanted ≡ mask_netlist N codes wanted

-- the mask of the third code of two different codes is the sum of their masks, under each mask setting
abbrev pub ThirdIsSum : Type 0
ThirdIsSum =
    (e f : ℕ) → T (is_code e) → T (is_code f) → T (not (eqb e f)) → (m0 m1 : Bool)
    → mask_of m0 m1 (third e f) ≡ differs (mask_of m0 m1 e) (mask_of m0 m1 f)
