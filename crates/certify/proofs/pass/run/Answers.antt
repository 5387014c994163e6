-- `certify_pass::pass::run` meets its contract.
use mathlib.Core.Path.{◌≡◌, sym, ap, ◌∙◌, subst}
use Prim.Native.Nat.{ℕ}
use Rattle.netlist.specs.Table.{gate_at, gates_of}
use Rattle.gates.specs.declared.Parts.{Parts}
use Rattle.gates.specs.Gates.{tables_of}
use Rattle.gates.specs.Parts.{gate_by}
use Rattle.certify.specs.Pass.{GateMakes}
use Rattle.certify.specs.Step.{state, step_of, run_of, parts_for}
use Rattle.certify.proofs.Passing.{gate-makes}
use Rattle.certify.proofs.Turns.{run-more}
use native.Mathlib.Numerals.{add-one}
use native.Mathlib.Omega.{arith}
use Rattle.certify.proofs.pass.run.Goals as goal

pub loop-i-preserved : goal.loop-i-preserved
loop-i-preserved c =
    let a = c.args in
    let l = c.loop-i in
    let t = tables_of a.gates in
    let s = state a.records.now a.marks.now a.hints.now in
    let e : c.plain-gate.result ≡ parts_for (gate_at t l.i) = c.plain-gate.ensures
    ∙ ap (λ (p : Parts). parts_for (gate_by p)) c.at.ensures in (
      λ n o N codes H M S.
          c.step.ensures.says.holds N codes (subst (GateMakes N codes) (sym e) (gate-makes l.i H M (omega arith)))
          (l.invariant.0 n o N codes H M S),
      c.step.ensures.is ∙ (λ k. step_of (l.invariant.1 k) (e k)) ∙ sym (run-more s (gates_of t l.i) (gate_at t l.i))
          ∙ sym (ap (λ (k : ℕ). run_of s (gates_of t k)) (add-one l.i)),
    )

pub returns-clause-says : goal.returns-clause-says
returns-clause-says c = c.loop-i.invariant.0

pub returns-clause-is : goal.returns-clause-is
returns-clause-is c =
    let a = c.args in
    let l = c.loop-i in
    let e : l.i ≡ a.gates.count = omega arith in
    l.invariant.1 ∙ ap (λ (k : ℕ). run_of (state a.records.now a.marks.now a.hints.now)
    (gates_of (tables_of a.gates) k)) e
