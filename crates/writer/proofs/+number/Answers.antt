-- `number`: all digits but the last, and then the last.
use Prim.Native.Nat.{ℕ, ◌+◌, ◌%◌}
use mathlib.Core.Path.{◌≡◌, sym, ap, ◌∙◌}
use mathlib.Core.List.{[], ◌∷◌}
use native.Mathlib.Omega.{arith}
use Rattle.writer.proofs.Writing.{wrote_as, wrote_then}
use Rattle.writer.proofs.Decimals.{decimal-one, decimal-last}
use Rattle.writer.proofs.+number.Goals as goal
use Rattle.writer.proofs.+number.Goals.{then-count-lt10, else-count-lt10}

pub returns : goal.returns
returns t c =
    elim c.if-count-lt10.branch [
      | then-count-lt10 w ↦
          let e : c.args.count % 10 ≡ c.args.count = omega arith in
          wrote_as (ap (λ (d : ℕ). (48 + d) ∷ []) e ∙ sym (decimal-one _ w.if-count-lt10.true))
          (rw (w.out-is, w.last-is) at c.put.ensures)
      | else-count-lt10 w ↦
          wrote_as (sym (decimal-last _ (omega arith) w.if-count-lt10.false))
          (wrote_then w.number-last.ensures (rw (w.out-is, w.last-is) at c.put.ensures))
    ]
