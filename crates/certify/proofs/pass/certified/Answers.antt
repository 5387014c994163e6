-- `certify_pass::pass::certified` meets its contract.
use mathlib.Core.Path.{◌≡◌, sym, ap, ◌∙◌, subst}
use mathlib.Core.Bool.{false}
use mathlib.Core.List.{List}
use Prim.Native.Nat.{ℕ, ◌<◌}
use lib.ListN.{length, get_or, replicate}
use Rattle.evaluate.specs.Lane.{lane}
use Rattle.gates.specs.Gates.{HoldsGates, gates_in}
use Rattle.certify.specs.Pass.{sure, LowestUnmarked}
use Rattle.certify.specs.Step.{State, state, inputs_of, run_of, passed}
use native.Mathlib.Omega.{arith}
use Rattle.netlist.specs.declared.Gate.{Gate}
use Rattle.netlist.specs.Netlist.{Netlist}
use Rattle.certify.proofs.Complete.{masking-none}
use Rattle.certify.proofs.Passing.{holding-none, if-some}
use Rattle.certify.proofs.pass.certified.Goals as goal

pub returns : goal.returns
unfolding passed
returns c =
    let a = c.args in
    let m = c.inputs.auto.marks ∙ c.fill-2.auto.self in
    let e = c.run.auto.marks ∙ m in
    let found : ℕ → Type 0 = λ w. (w < length c.run.new.marks) × (lane 0 (get_or c.run.new.marks w 0) ≡ false) in
    let r0 = c.fill.ensures.after (λ y e. e) in
    let m0 = c.fill-2.ensures.after (λ y e. e) in
    let h0 = c.fill-3.ensures.after (λ y e. e) in
    let all : state c.run.new.records c.run.new.marks c.run.new.hints
    ≡ passed (length a.marks.now) (length a.hints.now) a.codes.now (gates_in a.gates) =
    c.run.ensures.is ∙ ap (λ (s : State). run_of s (gates_in a.gates)) (c.inputs.ensures.is c.fill-3.new.self
    ∙ (λ i. inputs_of a.codes.now (state (r0 i) (m0 i) (h0 i)))
    ∙ ap (λ (k : ℕ). inputs_of a.codes.now (state (replicate k 0) (replicate (length a.marks.now) 0)
    (replicate (length a.hints.now) 0))) c.requires.1) in
    let exact : LowestUnmarked (passed (length a.marks.now) (length a.hints.now) a.codes.now (gates_in a.gates)).marks
    (length a.marks.now) c.lowest.result =
    subst (λ (q : List ℕ). LowestUnmarked q (length a.marks.now) c.lowest.result) (ap (λ (s : State). s.marks) all)
    record {
      lower = λ w h. c.lowest.ensures.lower w (subst (λ (W : ℕ). w < sure W c.lowest.result) (sym e) h);
      unmarked = if-some found (λ w. (w < length a.marks.now) × (lane 0 (get_or c.run.new.marks w 0) ≡ false))
          c.lowest.result
          (λ w h. let b = h.0 in (omega arith, h.1)) c.lowest.ensures.bound;
    } in
    let of-netlist : (n o : ℕ) (N : Netlist) → HoldsGates a.gates (length a.marks.now) n o N
    → LowestUnmarked (passed N.wires (length a.hints.now) a.codes.now N.gates).marks N.wires c.lowest.result =
    λ n o N H. let w = sym H.wires in
    subst (λ (W : ℕ). LowestUnmarked (passed W (length a.hints.now) a.codes.now N.gates).marks W c.lowest.result) w
    (subst (λ (gs : List Gate). LowestUnmarked (passed (length a.marks.now) (length a.hints.now) a.codes.now gs).marks
    (length a.marks.now) c.lowest.result)
    (sym H.gates) exact) in
    record {
      bound = if-some found (λ w. w < length a.marks.now) c.lowest.result (λ w h. let b = h.0 in omega arith)
          c.lowest.ensures.bound;
      lower = λ n o N H M w h.
          let K = subst (λ (W : ℕ). HoldsGates a.gates W n o N) (sym m) H in
          let S = c.inputs.ensures.says N M (holding-none N a.codes.now (length a.records.now) (length a.marks.now) r0
          m0) in
          (c.run.ensures.says n o N a.codes.now K M S).marked.clean w
          (c.lowest.ensures.lower w (subst (λ (W : ℕ). w < sure W c.lowest.result) (sym e) h));
      is = of-netlist;
      masking = λ n o N q H G few. masking-none G few (length a.hints.now) c.lowest.result (of-netlist n o N H);
    }
