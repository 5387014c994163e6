-- Questions 1 and 4 to 6 of a session.
use Prim.Native.Nat.{ℕ, ◌+◌, ◌≤◌}
use mathlib.Core.Path.{◌≡◌, sym, ap, ◌∙◌}
use mathlib.Core.Bool.{true, ◌&&◌}
use mathlib.Core.List.{List}
use lib.Dec.{leb, leb→le}
use lib.ListN.{length}
use Rattle.netlist.specs.declared.Limits.{Limits}
use Rattle.netlist.specs.Lists.{sum}
use Rattle.netlist.specs.Header.{Header, within_limits}
use Rattle.netlist.specs.Outcome.{Outcome, done, ask}
use Rattle.netlist.specs.Services.{tables_long}
use Rattle.netlist.proofs.Tests.{is_true, true-T, both}
use Rattle.netlist.proofs.Questions.{ask-done, done-same}
use Rattle.session.specs.Asked.{widths_good}
use Rattle.session.specs.Shown.{head_of, head_asked}

-- ---- question 5

-- the bounds that it admits
pub record Bounds (L : Limits) (widths outs : List ℕ) (gates : ℕ) : Type 0 where
  pub wires : sum widths + gates ≤ L.wires
  pub inputs : length widths ≤ L.inputs
  pub outputs : length outs ≤ L.outputs
  pub bits : sum outs ≤ sum widths + gates

module _ (L : Limits) (widths outputs : List ℕ) (gates : ℕ) where
  pub bounds : within_limits L (head_of widths outputs gates) ≡ true → Bounds L widths outputs gates
  bounds e =
      let W = sum widths + gates in
      let a = leb W L.wires in
      let b = leb (length widths) L.inputs in
      let c = leb (length outputs) L.outputs in
      let d = leb (sum widths) W in
      let p = both (a && b && c && d) (leb (sum outputs) W) (true-T _ e) in
      let q = both (a && b && c) d p.0 in
      let r = both (a && b) c q.0 in
      let s = both a b r.0 in
      record {
        wires = leb→le W L.wires s.0;
        inputs = leb→le (length widths) L.inputs s.1;
        outputs = leb→le (length outputs) L.outputs r.1;
        bits = leb→le (sum outputs) W p.1;
      }

-- ---- all of them

module _ (L : Limits) (lengths widths outputs : List ℕ) (gates places : ℕ) where
  abbrev head : Outcome Header
  head = head_asked L lengths widths outputs gates places

  -- every question got a yes
  pub record Yes : Type 0 where
    pub long : tables_long L lengths ≡ true
    pub ins : widths_good widths ≡ true
    pub outs : widths_good outputs ≡ true
    pub within : Bounds L widths outputs gates
    pub six : gates ≤ places
    pub is : head ≡ done (head_of widths outputs gates)

  pub head-yes : {H : Header} → head ≡ done H → Yes
  head-yes {H} h =
      let six : Outcome Header = ask 6 (leb gates places) (done (head_of widths outputs gates)) in
      let five : Outcome Header = ask 5 (within_limits L (head_of widths outputs gates)) six in
      let q1 = ask-done 1 (tables_long L lengths) (ask 4 (widths_good widths && widths_good outputs) five) H h in
      let q4 = ask-done 4 (widths_good widths && widths_good outputs) five H q1.1 in
      let q5 = ask-done 5 (within_limits L (head_of widths outputs gates)) six H q4.1 in
      let q6 = ask-done 6 (leb gates places) (done (head_of widths outputs gates)) H q5.1 in
      let w = both (widths_good widths) (widths_good outputs) q4.0 in
      record {
        long = is_true (tables_long L lengths) q1.0;
        ins = is_true (widths_good widths) w.0;
        outs = is_true (widths_good outputs) w.1;
        within = bounds L widths outputs gates (is_true (within_limits L (head_of widths outputs gates)) q5.0);
        six = leb→le gates places q6.0;
        is = h ∙ ap done (sym (done-same _ _ q6.1));
      }
