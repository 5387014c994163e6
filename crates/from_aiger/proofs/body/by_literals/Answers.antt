-- Output lines, AND lines, the gates of outputs.
use native.Mathlib.Omega.{arith}
use Rattle.netlist.specs.Table.{tables}
use Rattle.from_aiger.specs.LineAnswers.{lines_left}
use Rattle.from_aiger.specs.HeadAnswers.{head_said}
use Rattle.from_aiger.proofs.WholeLines.{lines-no-ands, wires-length, standing-first}
use Rattle.from_aiger.proofs.BodyLines.{kept-literals, whole-no-outs, whole-made}
use Rattle.from_aiger.proofs.body.by_literals.Goals as goal

pub returns-in_err-count : goal.returns-in_err-count
returns-in_err-count c =
    let H = head_said c.args.header in
    let l = lines_left c.args.lines in
    let q = c.keep_literals in
    let L = kept-literals H l c.args.results.now q.new.kept c.requires.1 q.auto.kept c.in_ok-rest.ensures.kept.0 in
    rw c.from_residual-in_err-count.ensures (
      λ ls A. lines-no-ands H ls A L (c.in_err-count.ensures.ands.0 H.most c.requires.0 _ _ (wires-length H ls A)
          (standing-first H ls A _)),
      omega arith,
    )

pub returns-in_err-outputs : goal.returns-in_err-outputs
returns-in_err-outputs c =
    let H = head_said c.args.header in
    let l = lines_left c.args.lines in
    let r = c.args.results.now in
    let q = c.keep_literals in
    let L = kept-literals H l r q.new.kept c.requires.1 q.auto.kept c.in_ok-rest.ensures.kept.0 in
    rw c.from_residual-in_err-outputs.ensures (
      λ ls A. whole-no-outs H l r q.new.kept c.requires.1 q.auto.kept c.ands.new.results c.ands.auto.results ls A L
          (c.in_ok-count.ensures.ands.0 H.most c.requires.0 _ _ (wires-length H ls A)
          (standing-first H ls A (tables c.args.operands.now _)))
          c.in_err-outputs.ensures,
      omega arith,
    )

pub returns : goal.returns
returns c =
    let H = head_said c.args.header in
    let l = lines_left c.args.lines in
    let r = c.args.results.now in
    let q = c.keep_literals in
    let L = kept-literals H l r q.new.kept c.requires.1 q.auto.kept c.in_ok-rest.ensures.kept.0 in (
      λ ls A. whole-made H l r q.new.kept c.requires.1 q.auto.kept c.ands.new.results c.ands.auto.results ls A L
          (c.in_ok-count.ensures.ands.0 H.most c.requires.0 _ _ (wires-length H ls A)
          (standing-first H ls A (tables c.args.operands.now _)))
          c.in_ok-outputs.ensures,
      omega (arith, c.in_ok-count.ensures.ands.1),
    )
