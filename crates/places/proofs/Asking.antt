-- The questions in order, with the places.
use Prim.Native.Nat.{ℕ, ◌-◌, ◌<◌, ◌≤◌}
use Rattle.std.specs.Prelude.{Option, Some, None}
use mathlib.Core.Path.{◌≡◌, refl, sym, ap, ◌∙◌, subst}
use mathlib.Core.Bool.{Bool, true, false, cond, ◌&&◌}
use mathlib.Core.List.{List, []}
use mathlib.Core.Option.{none, some}
use lib.Dec.{eqb, leb}
use lib.ListN.{length, drop}
use borrow.Author.Tests.{lt-leb, le-leb}
use Rattle.netlist.specs.declared.Gate.{Gate}
use Rattle.netlist.specs.declared.Limits.{Limits}
use Rattle.netlist.specs.declared.Refusal.{Refusal}
use Rattle.netlist.specs.declared.Refusal.TheVariants as Q
use Rattle.netlist.specs.Refusal.{number_of}
use Rattle.netlist.specs.Lists.{sum}
use Rattle.dialect.specs.declared.Dialect.TheVariants.{Fashion}
use Rattle.text.specs.Cursors.{left}
use Rattle.text.specs.declared.cursor.Cursor.{Cursor}
use Rattle.reader.specs.HeaderAnswers.{HeaderOf}
use Rattle.reader.proofs.Headers.{header-left}
use Rattle.netlist.specs.Outcome.{Outcome, refused, done, ask, and_then}
use Rattle.netlist.specs.Text.{word_lines}
use Rattle.netlist.specs.Header.{Header, header, within_limits}
use Rattle.netlist.specs.Read.{bytes_allowed, counts_agree, gate_lines, read_gates, netlist_of, opening, read_netlist}
use Rattle.reader.specs.declared.header_lines.HeaderNumbers.{HeaderNumbers}
use Rattle.reader.specs.Opens.{numbers_of}
use Rattle.places.specs.Limits.{clamped, over, or_else, first_over}
use Rattle.places.specs.Lines.{FirstLine, AllPass}
use Rattle.places.specs.Places.{refusal, count_refused, HeaderNot, LineFaultIs, FoundIs}
use Rattle.places.specs.Places.{long, limit, count, line, past_limit, miscounted}
use Rattle.places.specs.declared.lines.RefusedLine.{RefusedLine}
use Rattle.places.specs.declared.fault.Fault.{Fault}
use Rattle.places.specs.declared.fault.Spot.TheVariants.{Byte, Word}

-- ---- question 5

-- a test, and the refusal where it fails
abbrev Tells : Refusal → Bool → Option Fault → Type 0
Tells q b None = b ≡ true
Tells q b (Some f) = (b ≡ false) × (f.question ≡ q)

tells-both : (q : Refusal) (a b : Bool) (x y : Option Fault) → Tells q a x → Tells q b y → Tells q (a && b) (or_else x y)
tells-both q a b (Some f) y t u = (rw t.0 refl, t.1)
tells-both q a b None y t u = rw t u

over-tells : (row word have most : ℕ) → Tells Q.Limits (leb have most) (over row word have most)
over-tells row word have most = go (leb have most)
  where
    go : (b : Bool) → Tells Q.Limits b (cond b None (Some (refusal Q.Limits (Word row word) (clamped have) most)))
    go true = refl
    go false = (refl, refl)

limits-tell : (L : Limits) (H : Header) → Tells Q.Limits (within_limits L H) (first_over L (numbers_of H))
limits-tell L H =
    tells-both Q.Limits _ _ _ _
    (tells-both Q.Limits _ _ _ _
    (tells-both Q.Limits _ _ _ _
    (tells-both Q.Limits _ _ _ _ (over-tells 0 1 H.wires L.wires) (over-tells 1 0 (length H.inputs) L.inputs))
    (over-tells 2 0 (length H.outputs) L.outputs))
    (over-tells 1 1 (sum H.inputs) H.wires))
    (over-tells 2 1 (sum H.outputs) H.wires)

-- ---- question 6

counts-tell : (H : Header) (lines : ℕ) → Tells Q.Count (eqb H.count (H.wires - sum H.inputs) && eqb lines H.count)
    (count_refused (numbers_of H) lines)
counts-tell H lines = go (eqb H.count (H.wires - sum H.inputs)) (eqb lines H.count)
  where
    go : (a b : Bool) → Tells Q.Count (a && b)
        (cond a (cond b None (Some (refusal Q.Count (Word 0 0) H.count lines)))
        (Some (refusal Q.Count (Word 0 0) H.count (H.wires - sum H.inputs))))
    go true true = refl
    go true false = (refl, refl)
    go false b = (refl, refl)

told-no : (q : Refusal) (b : Bool) (o : Option Fault) (f : Fault) → o ≡ Some f → Tells q b o → (b ≡ false)
    × (f.question ≡ q)
told-no q b o f e t = let u = rw e at t in u

told-yes : (q : Refusal) (b : Bool) (o : Option Fault) → o ≡ None → Tells q b o → b ≡ true
told-yes q b o e t = let u = rw e at t in u

-- ---- all of them

module _ (L : Limits) (t : List ℕ) where
  pub found-long : L.text < length t → FoundIs L t (Some (refusal Q.Length (Byte L.text) (length t) L.text))
  unfolding read_netlist opening
  found-long k = (rw (lt-leb _ _ k) refl, long k)

  module _ (k : length t ≤ L.text) where
    pub refuses-bytes : bytes_allowed t ≡ false → read_netlist L t ≡ refused 3
    unfolding read_netlist opening
    refuses-bytes e = rw (le-leb _ _ k, e) refl

    module _ (e : bytes_allowed t ≡ true) where
      pub refuses-header : header (word_lines t) ≡ none → read_netlist L t ≡ refused 4
      unfolding read_netlist opening
      refuses-header h = rw (le-leb _ _ k, e, h) refl

      module _ (H : Header) (h : header (word_lines t) ≡ some H) where
        reached : read_netlist L t ≡ and_then (ask 5 (within_limits L H) (ask 6 (counts_agree H (drop 3 (word_lines t)))
            (done H))) (read_gates (drop 3 (word_lines t)))
        unfolding read_netlist opening
        reached = rw (le-leb _ _ k, e, h) refl

        counts-same : counts_agree H (drop 3 (word_lines t))
            ≡ (eqb H.count (H.wires - sum H.inputs) && eqb (length (drop 3 (word_lines t))) H.count)
        counts-same = refl

        over-found : (f : Fault) → first_over L (numbers_of H) ≡ Some f → FoundIs L t (Some f)
        over-found f o =
            let n = told-no Q.Limits _ _ f o (limits-tell L H) in
            (reached ∙ rw n.0 (ap (λ q. refused (number_of q)) (sym n.1)), limit H h f o)

        module _ (w : first_over L (numbers_of H) ≡ None) where
          within : within_limits L H ≡ true
          within = told-yes Q.Limits _ _ w (limits-tell L H)

          count-found : (f : Fault) → count_refused (numbers_of H) (length (drop 3 (word_lines t))) ≡ Some f
              → FoundIs L t (Some f)
          count-found f o =
              let n = told-no Q.Count _ _ f o (counts-tell H (length (drop 3 (word_lines t)))) in
              (reached ∙ rw within (rw n.0 (ap (λ q. refused (number_of q)) (sym n.1))), count H h f o)

          module _ (c : count_refused (numbers_of H) (length (drop 3 (word_lines t))) ≡ None) where
            counted : counts_agree H (drop 3 (word_lines t)) ≡ true
            counted = told-yes Q.Count _ _ c (counts-tell H (length (drop 3 (word_lines t))))

            opened : read_netlist L t ≡ read_gates (drop 3 (word_lines t)) H
            opened = reached ∙ rw within (rw counted refl)

            line-found : (r : RefusedLine) → FirstLine (sum H.inputs) H.wires (drop 3 (word_lines t)) r
                → gate_lines (sum H.inputs) H.wires [] (drop 3 (word_lines t)) ≡ refused (number_of r.question)
                → FoundIs L t (Some (refusal r.question (Word r.line r.word) 0 0))
            line-found r f g =
                (opened ∙ ap (λ (o : Outcome (List Gate)). and_then o λ gs. done (netlist_of H gs)) g, line H h r f)

            lines-pass : AllPass (sum H.inputs) H.wires (drop 3 (word_lines t)) → FoundIs L t None
            lines-pass p = record {
              is = netlist_of H p.gates;
              read = opened ∙ ap (λ (o : Outcome (List Gate)). and_then o λ gs. done (netlist_of H gs)) p.read;
            }

      -- by the header's numbers
      module _ {ins outs : List ℕ} {n : HeaderNumbers} {to : Cursor} (a : HeaderOf Fashion t ins outs n to) where
        numbers-same : numbers_of a.is ≡ n
        numbers-same = λ i. record {
          gates = a.gates i;
          wires = a.wires i;
          input_values = a.inputs i;
          input_bits = a.input_bits i;
          output_values = a.outputs i;
          output_bits = a.output_bits i;
        }

        lines-same : length (word_lines (left to)) ≡ length (drop 3 (word_lines t))
        lines-same = ap length (header-left a)

        pub found-header : (f : Fault) → HeaderNot L n (length (word_lines (left to))) f → FoundIs L t (Some f)
        found-header f (past_limit o) = over-found a.is a.read f (ap (first_over L) numbers-same ∙ o)
        found-header f (miscounted w o) =
            count-found a.is a.read (ap (first_over L) numbers-same ∙ w) f
            (ap (λ (m : HeaderNumbers). count_refused m (length (drop 3 (word_lines t)))) numbers-same
            ∙ ap (count_refused n) (sym lines-same) ∙ o)

        module _ (w : first_over L n ≡ None) (c : count_refused n (length (word_lines (left to))) ≡ None) where
          w' : first_over L (numbers_of a.is) ≡ None
          w' = ap (first_over L) numbers-same ∙ w

          c' : count_refused (numbers_of a.is) (length (drop 3 (word_lines t))) ≡ None
          c' = ap (λ (m : HeaderNumbers). count_refused m (length (drop 3 (word_lines t)))) numbers-same
              ∙ ap (count_refused n) (sym lines-same) ∙ c

          pub found-line : (o : Option Fault) → LineFaultIs n (word_lines (left to)) o → FoundIs L t o
          found-line (Some f) l =
              let b = a.input_bits in
              let x = a.wires in
              let s = header-left a in
              subst (λ (g : Fault). FoundIs L t (Some g)) (sym l.told)
              (line-found a.is a.read w' c' l.line
              (let g = l.first in rw (sym b, sym x, s) at g)
              (let g = l.refuses in rw (sym b, sym x, s) at g))
          found-line None p =
              let b = a.input_bits in
              let x = a.wires in
              let s = header-left a in
              lines-pass a.is a.read w' c' (rw (sym b, sym x, s) at p)
