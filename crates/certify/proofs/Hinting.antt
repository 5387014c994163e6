-- A leaf over an atom of another wire that is its own.
use mathlib.Core.Path.{◌≡◌, ◌∙◌}
use mathlib.Core.Bool.{Bool}
use mathlib.Core.List.{List}
use mathlib.Core.Logic.{◌≢◌}
use Prim.Native.Nat.{ℕ, ◌/◌}
use Rattle.netlist.specs.Netlist.{Netlist}
use Rattle.netlist.specs.Eval.{differs}
use Rattle.evaluate.specs.Lane.{lane}
use Rattle.certify_records.specs.declared.Record.{Record}
use Rattle.certify_records.specs.Record.{no_atom}
use Rattle.certify_records.specs.Leaf.{AtomOf, OneAtom}
use Rattle.certify_records.proofs.Records.{rec}
use Rattle.certify.specs.Known.{bit_of, atom_bit, Known}

-- an atom is a bit of its wire
atom-of : (N : Netlist) (codes : List ℕ) (x : List Bool) {w : ℕ} (a : ℕ) → a / 8 ≡ w → AtomOf (atom_bit N codes x)
    (bit_of N codes x w) a
atom-of N codes x a e = λ i. differs (bit_of N codes x (e i) (lane 1 a) (lane 2 a)) (lane 0 a)

pub hint-law : {N : Netlist} {codes : List ℕ} {w v : ℕ} {r s : Record} (leaf : Record) (b : ℕ)
    → OneAtom r leaf.first s b → leaf.first / 8 ≡ w → b / 8 ≡ v
    → b ≢ no_atom → Known N codes w r → Known N codes v s → Known N codes w leaf
    → Known N codes w (rec leaf.table b leaf.second leaf.third leaf.fourth)
hint-law {N} {codes} leaf b O own other some R S L = record {
  right = λ x.
      let e : atom_bit N codes x leaf.first ≡ atom_bit N codes x b =
      O.equal (R.right x) (S.right x) (atom-of N codes x leaf.first own) (atom-of N codes x b other) in
      record {
        each = λ l h at.
            (L.right x).each l h record {
              first = record { bit = λ n. e ∙ at.first.bit some };
              second = at.second;
              third = at.third;
              fourth = at.fourth;
            };
      };
}
