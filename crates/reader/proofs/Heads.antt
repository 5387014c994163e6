-- Questions 2 to 6 in order, but for the number of gate lines.
use Prim.Native.Nat.{ℕ, suc, ◌-◌, ◌<◌, ◌≤◌}
use mathlib.Core.Path.{◌≡◌, refl, sym, ap, ◌∙◌}
use mathlib.Core.Bool.{true, false, ◌&&◌}
use mathlib.Core.List.{List, [], ◌∷◌}
use mathlib.Core.Option.{none}
use native.Mathlib.Omega.{arith}
use lib.Dec.{T, eqb, leb, leb→le, eqb→eq}
use lib.ListN.{length, take, drop}
use borrow.Author.Tests.{lt-leb, le-leb}
use Rattle.netlist.specs.declared.Limits.{Limits}
use Rattle.netlist.specs.Outcome.{done, ask, given, and_then}
use Rattle.netlist.specs.Text.{word_lines}
use Rattle.netlist.specs.Header.{Header as TextHeader, within_limits}
use Rattle.netlist.specs.Read.{bytes_allowed, counts_agree, opening}
use Rattle.netlist.proofs.Tests.{both, true-T}
use Rattle.dialect.specs.declared.Dialect.{Dialect}
use Rattle.dialect.specs.declared.Dialect.TheVariants.{Fashion, Old}
use Rattle.dialect.specs.OldRead.{old_opening}
use Rattle.dialect.specs.Dialects.{header_in, header_lines, opening_in}
use Rattle.text.specs.Cursors.{left}
use Rattle.text.specs.declared.cursor.Cursor.{Cursor}
use Rattle.reader.specs.HeaderAnswers.{Kept, HeaderOf}
use Rattle.reader.specs.HeadAnswers.{within_numbers, header_numbers, gates_counted, Inside, HeadOf, NoHead}
use Rattle.reader.specs.declared.header_lines.HeaderNumbers.{HeaderNumbers}
use Rattle.reader.specs.declared.header.Header.{Header}
use Rattle.reader.proofs.Headers.{header-left}

-- ---- a header's numbers

module _ (L : Limits) (h : Header) (e : within_numbers L (header_numbers h) ≡ true) where
  -- four tests of question 5; the fifth is the law
  tests : T (leb h.wires L.wires) × T (leb h.input_values L.inputs) × T (leb h.output_values L.outputs)
      × T (leb h.output_bits h.wires)
  unfolding within_numbers
  tests =
      let a = leb h.wires L.wires in
      let b = leb h.input_values L.inputs in
      let c = leb h.output_values L.outputs in
      let d = leb h.input_bits h.wires in
      let f = leb h.output_bits h.wires in
      let p = both (a && b && c && d) f (true-T (within_numbers L (header_numbers h)) e) in
      let q = both (a && b && c) d p.0 in
      let r = both (a && b) c q.0 in
      let s = both a b r.0 in
      (s.0, s.1, r.1, p.1)

  inside : gates_counted h ≡ true → Inside L h
  unfolding gates_counted
  inside f =
      record {
        wires = leb→le _ _ tests.0;
        inputs = leb→le _ _ tests.1;
        outputs = leb→le _ _ tests.2;
        outs = leb→le _ _ tests.3;
        gates = eqb→eq _ _ (true-T (gates_counted h) f);
      }

-- ---- the questions

-- in both dialects the same ones, of another header
opening_of : (d : Dialect) (L : Limits) (t : List ℕ) → opening_in d L t
    ≡ ask 2 (leb (length t) L.text)
    (ask 3 (bytes_allowed t)
    (and_then (given 4 (header_in d (word_lines t))) λ (H : TextHeader).
    ask 5 (within_limits L H)
    (ask 6 (counts_agree H (drop (header_lines d) (word_lines t)))
    (done H))))
unfolding opening old_opening
opening_of Fashion L t = refl
opening_of Old L t = refl

module _ (d : Dialect) (L : Limits) (t : List ℕ) where
  pub no_length : L.text < length t → NoHead d L t 2
  no_length k = record { refuses = opening_of d L t ∙ rw (lt-leb _ _ k) }

  module _ (k : length t ≤ L.text) where
    pub no_bytes : bytes_allowed t ≡ false → NoHead d L t 3
    no_bytes e = record { refuses = opening_of d L t ∙ rw (le-leb _ _ k, e) }

    module _ (e : bytes_allowed t ≡ true) where
      pub no_header : header_in d (word_lines t) ≡ none → NoHead d L t 4
      no_header f = record { refuses = opening_of d L t ∙ rw (le-leb _ _ k, e, f) }

      module _ {ins outs : List ℕ} {n : HeaderNumbers} {to : Cursor} (a : HeaderOf d t ins outs n to) where
        -- the header's numbers and the lines after it decide
        reached : opening_in d L t
            ≡ ask 5 (within_numbers L n)
            (ask 6 (eqb n.gates (n.wires - n.input_bits) && eqb (length (word_lines (left to))) n.gates)
            (done a.is))
        unfolding within_numbers
        reached =
            opening_of d L t
            ∙ rw (le-leb _ _ k, e, a.read) (simp (
              a.wires,
              a.inputs,
              a.input_bits,
              a.outputs,
              a.output_bits,
              a.gates,
              header-left a,
            ))

        pub no_limits : within_numbers L n ≡ false → NoHead d L t 5
        no_limits f = record { refuses = reached ∙ rw f }

      -- the numbers of a header that question 5 admits
      module _ {ins outs : List ℕ} (h : Header) {to : Cursor} (a : HeaderOf d t ins outs (header_numbers h) to)
          (f : within_numbers L (header_numbers h) ≡ true) where
        reached-within : opening_in d L t ≡ ask 6 (gates_counted h && eqb (length (word_lines (left to))) h.gates)
            (done a.is)
        unfolding gates_counted
        reached-within = reached a ∙ rw f

        pub no_count : gates_counted h ≡ false → NoHead d L t 6
        no_count g = record { refuses = reached-within ∙ rw g }

        pub head_at : gates_counted h ≡ true → HeadOf d L t ins outs h to
        head_at g = record { header = a; inside = inside L h f g; opens = reached-within ∙ rw g }

-- ---- the widths

-- those that a table with room for all of them has kept
kept-front : (table ws : List ℕ) → Kept table ws → length ws ≤ length table → take (length ws) table ≡ ws
kept-front table [] k h = refl
kept-front [] (w ∷ ws) k h = absurd (omega arith)
kept-front (x ∷ table) (w ∷ ws) k h =
    let p : x ≡ w = k 0 (omega arith) (omega arith) in
    let q = kept-front table ws (λ i a b. k (suc i) (omega arith) (omega arith)) (omega arith) in
    cc

module _ {d : Dialect} {L : Limits} {t ins outs : List ℕ} {h : Header} {to : Cursor} (a : HeadOf d L t ins outs h to)
  where
    pub inputs-front : L.inputs ≤ length ins → take h.input_values ins ≡ a.header.is.inputs
    inputs-front room =
        let n = a.header.inputs in
        ap (λ (k : ℕ). take k ins) (sym n) ∙ kept-front ins a.header.is.inputs a.header.kept_in
        (omega (arith, a.inside.inputs))

    pub outputs-front : L.outputs ≤ length outs → take h.output_values outs ≡ a.header.is.outputs
    outputs-front room =
        let n = a.header.outputs in
        ap (λ (k : ℕ). take k outs) (sym n) ∙ kept-front outs a.header.is.outputs a.header.kept_out
        (omega (arith, a.inside.outputs))
