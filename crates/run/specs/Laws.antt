-- Bits and words keep the laws of entries.
use Rattle.std.specs.Prelude.{ℕ, ◌+◌, ◌-◌, ◌≤◌, ◌≡◌, true, false, List, ◌++◌, eqb, length, replicate}
use Rattle.std.proofs.Common.{sym, ap, ◌∙◌, subst}
use Rattle.std.proofs.Math.Nat.{add-sub_of_le, add-sub_cancel}
use Rattle.std.proofs.lemmas.List.{length-append, length-drop, length-map, length-replicate}
use borrow.Author.Tests.{eqb-true}
use Rattle.netlist.specs.Lists.{every}
use Rattle.netlist.specs.Netlist.{Netlist, input_bits, output_bits}
use Rattle.netlist.specs.Eval.{wire_bits, outputs_of, bit}
use Rattle.netlist.specs.Services.{list_good, is_bit, is_one, bools, output_list}
use Rattle.netlist.proofs.Tests.{both_true}
use Rattle.netlist.proofs.Models.{length-run_gates}
use Rattle.evaluate.specs.Lane.{output_words}
use Rattle.evaluate.proofs.Words.{length-output_words}
use Rattle.run.specs.Entries.{EntryLaws}

-- a list of bits that question 11 admits has one for each input bit
list_length : (list : List ℕ) (n : ℕ) → list_good is_bit n list ≡ true → length list ≡ n
list_length list n g = eqb-true (length list) n (both_true (eqb (length list) n) (every is_bit list) g).0

-- there is one output bit for each output wire
length-outputs : (N : Netlist) (list : List ℕ) → list_good is_bit (input_bits N) list ≡ true → input_bits N ≤ N.wires
    → output_bits N ≤ N.wires
    → length (output_list N list) ≡ output_bits N
unfolding wire_bits outputs_of
length-outputs N list g i u =
    let ins = bools list in
    let rest = replicate (N.wires - length ins) false in
    let few : length ins ≤ N.wires = subst (λ (k : ℕ). k ≤ N.wires)
    (sym (length-map list is_one ∙ list_length list (input_bits N) g)) i in
    length-map (outputs_of N ins) bit ∙ length-drop (N.wires - output_bits N) (wire_bits N ins)
    ∙ ap (λ (k : ℕ). k - (N.wires - output_bits N)) (
    length-run_gates (ins ++ rest) N.gates ∙ length-append ins rest
    ∙ ap (λ (k : ℕ). length ins + k) (length-replicate (N.wires - length ins) false) ∙ add-sub_of_le few
    ∙ sym (add-sub_of_le u)
    ) ∙ add-sub_cancel (output_bits N) (N.wires - output_bits N)

pub bit_laws : EntryLaws (λ list n. list_good is_bit n list) output_list
bit_laws = record { ins = list_length; outs = length-outputs }

pub word_laws : EntryLaws (λ list n. eqb (length list) n) output_words
word_laws = record { ins = λ list n e. eqb-true (length list) n e; outs = λ N list e i u. length-output_words N list }
