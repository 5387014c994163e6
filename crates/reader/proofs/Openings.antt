-- An opening, from the head of the text and the number of its gate lines.
use Prim.Native.Nat.{ℕ, ◌+◌, ◌<◌, ◌≤◌}
use Rattle.std.specs.Prelude.{Ok, Err}
use mathlib.Core.Path.{◌≡◌, refl, sym, ap, ◌∙◌}
use mathlib.Core.Bool.{◌&&◌}
use mathlib.Core.List.{List, ◌++◌}
use native.Mathlib.Omega.{arith}
use lib.Dec.{leb}
use lib.ListN.{length, take, drop}
use lib.Seq.{sets, sets-eq, length-take-le}
use borrow.Author.Tests.{eq-eqb, ne_eqb, le-leb, lt-leb}
use Rattle.netlist.specs.declared.Limits.{Limits}
use Rattle.netlist.specs.Outcome.{refused, done, ask}
use Rattle.netlist.specs.declared.Refusal.{Refusal}
use Rattle.netlist.specs.declared.Refusal.TheVariants as Q
use Rattle.netlist.specs.Refusal.{number_of}
use Rattle.netlist.specs.Text.{word_lines}
use Rattle.netlist.specs.Read.{opening}
use Rattle.text.specs.Cursors.{left}
use Rattle.text.specs.declared.cursor.Cursor.{Cursor}
use Rattle.reader.specs.HeaderAnswers.{HeaderAt}
use Rattle.reader.specs.HeadAnswers.{HeadAt, HeadNot}
use Rattle.reader.specs.declared.header_lines.HeaderNumbers.{HeaderNumbers}
use Rattle.reader.specs.declared.header.Header.{Header as Admitted}
use Rattle.reader.proofs.Heads.{inputs-front, outputs-front}
use Rattle.reader.specs.Calls.{left_at}
use Rattle.reader.specs.Opens.{numbers_of, opening_call, OpeningIs}
use Rattle.reader.specs.declared.gate_reader.GateReader.{GateReader}

-- ---- widths copied

front : (s d : List ℕ) (n : ℕ) → length s ≡ n → n ≤ length d → sets d 0 s ≡ s ++ drop n d
front s d n e h =
    let z : 0 + length s ≡ n = omega arith in
    sets-eq s d 0 (omega arith) ∙ ap (λ (k : ℕ). s ++ drop k d) z

pub copied : (ws table : List ℕ) (n : ℕ) → n ≤ length ws → n ≤ length table → take n ws ++ drop n table
    ≡ sets table 0 (take n ws)
copied ws table n h k = sym (front (take n ws) table n (length-take-le n ws h) k)

-- ---- the answer

-- a head under limits that are L
pub head-under : {l L : Limits} {t ws vs : List ℕ} {h : Admitted} {to : Cursor} → l ≡ L → HeadAt l t ws vs h to
    → HeadAt L t ws vs h to
head-under e a = rw e at a

numbers-same : {t ws vs : List ℕ} {h : HeaderNumbers} {to : Cursor} (a : HeaderAt t ws vs h to) → h ≡ numbers_of a.is
numbers-same a =
    λ i. record {
      gates = sym a.gates i;
      wires = sym a.wires i;
      input_values = sym a.inputs i;
      input_bits = sym a.input_bits i;
      output_values = sym a.outputs i;
      output_bits = sym a.output_bits i;
    }

-- a question gets a no, and nothing is written
refuses : {L : Limits} {t ins outs : List ℕ} {q : Refusal} → opening_call L t (length ins) (length outs)
    ≡ refused (number_of q)
    → OpeningIs L t ins ins outs outs (Err q)
refuses e = record { said = rw e; inputs = rw e; outputs = rw e; place = tt }

-- one of 2 to 6
not_opened : {L : Limits} {t ins outs : List ℕ} {q : Refusal} → opening L t ≡ refused (number_of q)
    → OpeningIs L t ins ins outs outs (Err q)
unfolding opening_call
not_opened e = refuses (rw e)

pub open-not : {L : Limits} {t ins outs : List ℕ} {q : Refusal} → HeadNot L t (number_of q) → OpeningIs L t ins ins outs
    outs (Err q)
open-not a = not_opened a.refuses

module _ {L : Limits} {t ws vs : List ℕ} {h : Admitted} {to : Cursor} {n : ℕ} (a : HeadAt L t ws vs h to)
    (lines : n ≡ length (word_lines (left to))) where
  -- there are more gate lines, or fewer
  pub open-6 : {ins outs : List ℕ} → (n ≡ h.gates → ⊥) → OpeningIs L t ins ins outs outs (Err Q.Count)
  open-6 e = not_opened (a.opens ∙ rw (← lines) (rw (ne_eqb _ _ e)))

  -- there are as many
  module _ (e : n ≡ h.gates) where
    opens : opening L t ≡ done a.header.is
    opens = a.opens ∙ rw (← lines) (rw (eq-eqb _ _ e))

    -- question 14 is left, of buffers with room for i and o widths
    called : (i o : ℕ) → opening_call L t i o ≡ ask 14 (leb h.input_values i && leb h.output_values o)
        (done a.header.is)
    unfolding opening_call
    called i o = rw opens (rw (a.header.inputs, a.header.outputs) refl)

    -- the input widths have no room, or the output widths
    pub open-14-in : {ins outs : List ℕ} → length ins < h.input_values → OpeningIs L t ins ins outs outs (Err Q.Room)
    open-14-in {ins} {outs} k = refuses (called (length ins) (length outs) ∙ rw (lt-leb _ _ k))

    pub open-14-out : {ins outs : List ℕ} → h.input_values ≤ length ins → length outs < h.output_values
        → OpeningIs L t ins ins outs outs (Err Q.Room)
    open-14-out {ins} {outs} i k = refuses (called (length ins) (length outs) ∙ rw (le-leb _ _ i, lt-leb _ _ k))

    -- both have room
    pub open_at : {ins ins' outs outs' : List ℕ} {r : GateReader} → r.text.now ≡ t → r.at ≡ to.at
        → h.input_values ≤ length ins
        → h.output_values ≤ length outs → L.inputs ≤ length ws
        → L.outputs ≤ length vs → ins' ≡ sets ins 0 (take h.input_values ws) → outs'
        ≡ sets outs 0 (take h.output_values vs)
        → OpeningIs L t ins ins' outs outs' (Ok (h, r))
    unfolding left_at
    open_at {ins} {ins'} {outs} x y i o room room' p q =
        let H = a.header in
        let c : opening_call L t (length ins) (length outs) ≡ done H.is = called (length ins) (length outs)
        ∙ rw (le-leb _ _ i, le-leb _ _ o) in
        record {
          said = rw c (ap done (numbers-same H));
          inputs = p ∙ rw c (ap (sets ins 0) (inputs-front a room));
          outputs = q ∙ rw c (ap (sets outs 0) (outputs-front a room'));
          place = (
            x,
            rw y (record {
              head = H.is;
              opens = opens;
              left = ap (drop to.at) (sym H.same) ∙ H.place;
              within
                  = (let w = to.within in rw (sym H.same) w);
            }),
          );
        }
