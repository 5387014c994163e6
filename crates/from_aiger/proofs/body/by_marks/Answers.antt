-- Output lines, AND lines, and whether all variables that have marks are given.
use Prim.Native.Nat.{◌+◌}
use mathlib.Core.Path.{sym, ◌∙◌}
use native.Mathlib.Omega.{arith}
use lib.Seq.{length-take-le}
use Rattle.from_aiger.specs.HeadAnswers.{head_said}
use Rattle.from_aiger.proofs.WholeLines.{lines-no-marks, lines-no-ands, wires-length, standing-first}
use Rattle.from_aiger.proofs.BodyLines.{marks-no-outs, marks-made}
use Rattle.from_aiger.proofs.body.by_marks.Goals as goal

pub returns-in_err-rest : goal.returns-in_err-rest
returns-in_err-rest c =
    let H = head_said c.args.header in
    let long = length-take-le (H.most + 1) c.args.operands.now (omega (arith, c.requires.2)) in
    rw c.from_residual.ensures (
      λ ls A. lines-no-marks H ls A
          (c.in_err-rest.ensures.marks H.most (omega (arith, long))),
      omega arith,
    )

pub returns-in_err-count : goal.returns-in_err-count
returns-in_err-count c =
    let H = head_said c.args.header in
    let long = length-take-le (H.most + 1) c.args.operands.now (omega (arith, c.requires.2)) in
    rw c.from_residual-in_err-count.ensures (
      λ ls A. lines-no-ands H ls A (c.in_ok-rest.ensures.marks H.most (omega (arith, long))).literals
          (c.in_err-count.ensures.ands.0 H.most c.requires.0 _ _ (wires-length H ls A) (standing-first H ls A _)),
      omega arith,
    )

pub returns-then-not-are_given : goal.returns-then-not-are_given
returns-then-not-are_given c =
    let H = head_said c.args.header in
    let long = length-take-le (H.most + 1) c.args.operands.now (omega (arith, c.requires.2)) in (
      λ ls A. marks-no-outs H ls A (c.in_ok-rest.ensures.marks H.most (omega (arith, long)))
          (c.in_ok-count.ensures.ands.0 H.most c.requires.0 _ _ (wires-length H ls A) (standing-first H ls A _))
          (λ given wires are P O. sym c.if-not-are_given.true ∙ c.are_given.ensures H.most (omega (arith, long)) given
          wires are P O),
      omega arith,
    )

pub returns : goal.returns
returns c =
    let H = head_said c.args.header in
    let long = length-take-le (H.most + 1) c.args.operands.now (omega (arith, c.requires.2)) in (
      λ ls A. marks-made H ls A (c.in_ok-rest.ensures.marks H.most (omega (arith, long)))
          (c.in_ok-count.ensures.ands.0 H.most c.requires.0 _ _ (wires-length H ls A) (standing-first H ls A _))
          (λ given wires are P O. sym c.if-not-are_given.false ∙ c.are_given.ensures H.most (omega (arith, long)) given
          wires are P O) (omega arith),
      omega (arith, c.in_ok-count.ensures.ands.1),
    )
