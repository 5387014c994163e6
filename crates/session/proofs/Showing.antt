-- The netlist that a session's records stand for is well formed, and is the one that the tables hold.
use Prim.Native.Nat.{ℕ, zero, suc, ◌+◌}
use mathlib.Core.Path.{◌≡◌, refl, sym, ap, ◌∙◌, subst}
use mathlib.Core.List.{List, [], ◌∷◌, ◌++◌}
use native.Mathlib.Omega.{arith}
use lib.Dec.{leb, leb→le}
use lib.ListN.{length, take, get_or}
use lib.Seq.{length-take-le}
use Rattle.netlist.specs.declared.Gate.{Gate}
use Rattle.netlist.specs.declared.Limits.{Limits}
use Rattle.netlist.specs.declared.Sizes.{Sizes}
use Rattle.netlist.specs.Lists.{every, sum}
use Rattle.netlist.specs.Netlist.{Netlist, source_limits}
use Rattle.netlist.specs.Header.{Header}
use Rattle.netlist.specs.Outcome.{Outcome, refused, done, and_then}
use Rattle.netlist.specs.Read.{netlist_of, WellFormed, Within}
use Rattle.netlist.proofs.Tests.{true-T, both}
use Rattle.netlist.proofs.Questions.{done-same, and_then-done}
use Rattle.netlist.proofs.Order.{Ordered, end, step, ordered-append, ordered-length, ordered-good}
use Rattle.gates.specs.declared.records.SourceRecord.{SourceRecord}
use Rattle.gates.specs.declared.Gates.{Gates}
use Rattle.gates.specs.Gates.{gates_in}
use Rattle.gates.specs.Records.{blank_source, gate_in}
use Rattle.session.specs.Asked.{widths_good, gate_good}
use Rattle.session.specs.declared.shown.Shown.{Shown}
use Rattle.session.specs.Shown.{head_of, head_asked, record_gates, netlist_shown}
use Rattle.session.specs.Parts.{ShownIs, GatesAt, NetlistAt}
use Rattle.session.proofs.Filling.{records-front}
use Rattle.session.proofs.Askings.{Yes, head-yes}
use Rattle.session.proofs.Gates.{admitted}

-- the gates give the wires after the n input bits, in order
record-ordered : (n : ℕ) (source : List SourceRecord) (k : ℕ) (gs : List Gate) → record_gates n source k ≡ done gs
    → Ordered n gs (n + k)
record-ordered n source zero gs e =
    let z : n ≡ n + 0 = omega arith in
    subst (λ (w : ℕ). Ordered n gs w) z (subst (λ (hs : List Gate). Ordered n hs n) (done-same [] gs e) end)
record-ordered n source (suc k) gs e =
    let p = and_then-done (record_gates n source k) _ gs e in
    let hs : List Gate = p.0 in
    let q = and_then-done (gate_good (n + k) (gate_in (get_or source k blank_source))) _ gs p.2 in
    let g : Gate = q.0 in
    let a = admitted (n + k) (gate_in (get_or source k blank_source)) g q.1 in
    let z : n + k + 1 ≡ n + suc k = omega arith in
    let o : Ordered n (hs ++ (g ∷ [])) (n + k + 1) = ordered-append (record-ordered n source k hs p.1)
    (step a.result a.operands end) in
    subst (λ (w : ℕ). Ordered n gs w) z (subst (λ (xs : List Gate). Ordered n xs (n + k + 1))
    (done-same (hs ++ (g ∷ [])) gs q.2) o)

module _ (L : Limits) (lengths widths outputs : List ℕ) (gates : ℕ) (source : List SourceRecord) where
  abbrev shown : Outcome Netlist
  shown = netlist_shown L lengths widths outputs gates source

  -- a netlist that is shown: every question got a yes
  pub record Made (N : Netlist) : Type 0 where
    pub yes : Yes L lengths widths outputs gates (length source)
    pub gs : List Gate
    pub records : record_gates (sum widths) source gates ≡ done gs
    pub netlist : netlist_of (head_of widths outputs gates) gs ≡ N

  pub made-formed : (gs : List Gate) → Yes L lengths widths outputs gates (length source)
      → record_gates (sum widths) source gates ≡ done gs
      → WellFormed (netlist_of (head_of widths outputs gates) gs)
  made-formed gs y e =
      let o = record-ordered (sum widths) source gates gs e in
      let i = both (leb 1 (length widths)) (every (leb 1) widths) (true-T (widths_good widths) y.ins) in
      let u = both (leb 1 (length outputs)) (every (leb 1) outputs) (true-T (widths_good outputs) y.outs) in
      record {
        some_input = leb→le 1 (length widths) i.0;
        inputs_positive = i.1;
        some_output = leb→le 1 (length outputs) u.0;
        outputs_positive = u.1;
        inputs_fit = omega arith;
        outputs_fit = y.within.bits;
        gate_count = omega (arith, ordered-length o);
        good = ordered-good (sum widths) (sum widths + gates) gs o;
      }

  -- what follows the header
  goes_on : Yes L lengths widths outputs gates (length source) → shown
      ≡ (and_then (record_gates (sum widths) source gates) λ gs. done
      (netlist_of (head_of widths outputs gates) gs))
  goes_on y = ap (λ (o : Outcome Header). and_then o λ H. and_then (record_gates (sum widths) source gates) λ gs. done
      (netlist_of H gs)) y.is

  pub shown-made : (N : Netlist) → shown ≡ done N → Made N
  shown-made N e =
      let p = and_then-done (head_asked L lengths widths outputs gates (length source)) _ N e in
      let y = head-yes L lengths widths outputs gates (length source) p.1 in
      let q = and_then-done (record_gates (sum widths) source gates) _ N (sym (goes_on y) ∙ e) in
      record { yes = y; gs = q.0; records = q.1; netlist = done-same _ N q.2 }

  pub shown-formed : (N : Netlist) → shown ≡ done N → WellFormed N
  shown-formed N e = let m = shown-made N e in subst WellFormed m.netlist (made-formed m.gs m.yes m.records)

  pub shown-within : (N : Netlist) → shown ≡ done N → Within L N
  shown-within N e =
      let m = shown-made N e in
      let w = m.yes.within in
      subst (Within L) m.netlist (record { wires = w.wires; inputs = w.inputs; outputs = w.outputs })

-- ---- from the answers of the parts

module _ (z : Sizes) (lengths widths outputs : List ℕ) (gates : ℕ) (source : List SourceRecord) {s : Shown}
    (A : ShownIs z lengths widths outputs gates (length source) s) where
  yes : Yes (source_limits z) lengths widths outputs gates (length source)
  yes = head-yes (source_limits z) lengths widths outputs gates (length source) A.head.is

  bits-same : s.header.input_bits ≡ sum widths
  bits-same = s.counted.input_bits ∙ ap sum A.widths

  -- the records that are shown, after the input bits
  abbrev shown_records : List SourceRecord
  shown_records = take gates source

  same-records : record_gates (sum widths) source gates ≡ record_gates s.header.input_bits shown_records
      (length shown_records)
  same-records =
      ap (λ (n : ℕ). record_gates n source gates) (sym bits-same)
      ∙ sym (records-front s.header.input_bits gates source gates (omega arith))
      ∙ ap (record_gates s.header.input_bits shown_records)
      (sym (length-take-le gates source (omega (arith, A.count, A.places))))

  -- what follows the records
  records : {r : Outcome (List Gate)} → record_gates s.header.input_bits shown_records (length shown_records) ≡ r
      → netlist_shown (source_limits z) lengths widths outputs gates source
      ≡ (and_then r λ gs. done (netlist_of (head_of widths outputs gates) gs))
  records e = goes_on (source_limits z) lengths widths outputs gates source yes
      ∙ ap (λ (o : Outcome (List Gate)). and_then o λ gs. done (netlist_of (head_of widths outputs gates) gs))
      (same-records ∙ e)

  -- a no of the records
  pub records-no : {n : ℕ} → record_gates s.header.input_bits shown_records (length shown_records) ≡ refused n
      → netlist_shown (source_limits z) lengths widths outputs gates source ≡ refused n
  records-no e = records e

  -- all of them are admitted
  pub stands-at : {g : Gates} → GatesAt s.header.input_bits shown_records g
      → NetlistAt (netlist_shown (source_limits z) lengths widths outputs gates source) g s
  stands-at {g} G =
      let gs = gates_in g in
      record {
        is = netlist_of (head_of widths outputs gates) gs;
        outcome = records G.gates;
        wires = omega (arith, bits-same, A.count, s.counted.wires);
        inputs = sym A.widths;
        outputs = sym A.outputs;
        gates = refl;
        formed = made-formed (source_limits z) lengths widths outputs gates source gs yes (same-records ∙ G.gates);
      }

-- a no of the questions before the records
pub head-no : (L : Limits) (lengths widths outputs : List ℕ) (gates : ℕ) (source : List SourceRecord) {n : ℕ}
    → head_asked L lengths widths outputs gates (length source) ≡ refused n → netlist_shown L lengths widths outputs
    gates source ≡ refused n
head-no L lengths widths outputs gates source e =
    ap (λ (o : Outcome Header). and_then o λ H. and_then (record_gates (sum widths) source gates) λ gs. done
    (netlist_of H gs)) e
