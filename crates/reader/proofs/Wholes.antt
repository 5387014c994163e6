-- Questions 1 to 9 together: the tables, the head, and then the gate lines.
use Prim.Native.Nat.{ℕ, ◌≤◌}
use mathlib.Core.Path.{◌≡◌, refl, ap, ◌∙◌}
use mathlib.Core.Bool.{Bool, true, false}
use mathlib.Core.List.{List, []}
use mathlib.Core.Option.{some}
use native.Mathlib.Omega.{arith}
use lib.Dec.{eqb}
use lib.ListN.{length, drop}
use Rattle.netlist.specs.declared.Gate.{Gate}
use Rattle.netlist.specs.declared.Limits.{Limits}
use Rattle.netlist.specs.Outcome.{Outcome, done, ask, and_then}
use Rattle.netlist.specs.Text.{word_lines}
use Rattle.netlist.specs.Header.{Header as TextHeader}
use Rattle.netlist.specs.Read.{gate_lines, netlist_of, read_gates, read_netlist}
use Rattle.netlist.specs.Table.{Tables, gates_of}
use Rattle.netlist.proofs.HeaderFacts.{header-good}
use Rattle.dialect.specs.declared.Dialect.{Dialect}
use Rattle.dialect.specs.declared.Dialect.TheVariants.{Fashion, Old}
use Rattle.dialect.specs.OldRead.{read_old}
use Rattle.dialect.specs.Dialects.{header_in, header_lines, lines_in, opening_in, read_in}
use Rattle.dialect.proofs.OldAccepted.{old-header-good}
use Rattle.text.specs.Cursors.{left}
use Rattle.text.specs.declared.cursor.Cursor.{Cursor}
use Rattle.reader.specs.HeadAnswers.{HeadOf, NoHead}
use Rattle.reader.proofs.Headers.{header-left}
use Rattle.reader.proofs.Heads.{inputs-front, outputs-front}
use Rattle.reader.specs.declared.header.Header.{Header}
use Rattle.reader.specs.GateLines.{ask_lines, GatesRead, GatesNot}
use Rattle.reader.specs.Whole.{ReadOf, ReadNot}

-- in both dialects the head, and then the gate lines
read_of : (d : Dialect) (L : Limits) (t : List ℕ) → read_in d L t ≡ and_then (opening_in d L t)
    (read_gates (lines_in d (drop (header_lines d) (word_lines t))))
unfolding read_netlist read_old
read_of Fashion L t = refl
read_of Old L t = refl

some-input : (d : Dialect) (ls : List (List (List ℕ))) (H : TextHeader) → header_in d ls ≡ some H → 1 ≤ length H.inputs
some-input Fashion ls H e = (header-good ls H e).inputs.filled
some-input Old ls H e = (old-header-good ls H e).good.inputs.filled

module _ {d : Dialect} {L : Limits} {t : List ℕ} where
  -- a head that is not admitted
  pub read-no-head : {q : ℕ} → NoHead d L t q → ReadNot d L t q
  read-no-head a = record { refuses = read_of d L t ∙ rw a.refuses }

  module _ {ins outs : List ℕ} {h : Header} {to : Cursor} (a : HeadOf d L t ins outs h to) where
    -- the gate lines decide
    reached : read_in d L t ≡ (and_then (ask_lines d h.gates h.input_bits h.wires (word_lines (left to))) λ gs. done
        (netlist_of a.header.is gs))
    reached = read_of d L t ∙ rw a.opens (go (eqb (length (word_lines (left to))) h.gates))
      where
        go : (b : Bool) → and_then (ask 6 b (done a.header.is))
            (read_gates (lines_in d (drop (header_lines d) (word_lines t))))
            ≡ (and_then (ask 6 b (gate_lines h.input_bits h.wires [] (lines_in d (word_lines (left to))))) λ gs. done
            (netlist_of a.header.is gs))
        go true = simp (a.header.wires, a.header.input_bits, header-left a.header)
        go false = refl

    pub read-not : {q : ℕ} → GatesNot d (left to) h.gates h.input_bits h.wires q → ReadNot d L t q
    read-not g = record {
      refuses = reached ∙ ap (λ (o : Outcome (List Gate)). and_then o λ gs. done
          (netlist_of a.header.is gs)) g.refuses;
    }

    pub read_done : {tabs : Tables} → L.inputs ≤ length ins → L.outputs ≤ length outs → GatesRead d (left to) h.gates
        h.input_bits h.wires tabs
        → ReadOf d L t ins outs tabs h
    read_done {tabs} room room' g =
        let H = a.header in
        let i = a.inside in
        let some = some-input d (word_lines t) H.is H.read in
        let li = H.inputs in
        record {
          is = netlist_of H.is (gates_of tabs h.gates);
          read = reached ∙ ap (λ (o : Outcome (List Gate)). and_then o λ gs. done (netlist_of H.is gs)) g.lines;
          holds = record { gates = refl; wires = H.wires; ins = H.input_bits; outs = H.output_bits };
          wired = g.wired;
          inputs = inputs-front a room;
          outputs = outputs-front a room';
          some_in = omega arith;
          many_in = i.inputs;
          many_out = i.outputs;
          wires = i.wires;
          in_bits = h.inputs_are_wires;
          out_bits = i.outs;
          gates = i.gates;
        }
