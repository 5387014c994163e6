-- `next`: by its cases.
use native.Mathlib.Omega.{arith}
use mathlib.Core.Path.{refl, ap}
use borrow.Author.Rules.{rules}
use Rattle.check_wide.proofs.Nexts.{next-first, next-second, next-both}
use Rattle.check_wide.proofs.unite.next.Goals as goal
use Rattle.check_wide.proofs.unite.next.Goals.{then-q-p, else-q-p, then-p-q, else-p-q}

pub returns-in-len1-up-empty : goal.returns-in-len1-up-empty
returns-in-len1-up-empty c = next-first _ c.args.first.now c.args.second.now (search rules) (λ l. search rules) refl
    refl refl

pub returns-in-empty-len1-up : goal.returns-in-empty-len1-up
returns-in-empty-len1-up c = next-second _ c.args.first.now c.args.second.now (search rules) (λ l. search rules) refl
    refl refl

pub returns-after-p-q : goal.returns-after-p-q
returns-after-p-q c =
    elim c.if-q-p.branch [
      | then-q-p v ↦ elim c.if-p-q.branch [
        | then-p-q w ↦ absurd (omega (arith, v.if-q-p.true, w.if-p-q.true))
        | else-p-q w ↦ next-second _ c.args.first.now c.args.second.now (search rules) (λ _. v.if-q-p.true)
            (omega (arith, c.min.ensures, v.if-q-p.true)) (ap (λ r. r.now) v.result-is) (ap (λ r. r.now) w.result-is)
      ]
      | else-q-p v ↦ elim c.if-p-q.branch [
        | then-p-q w ↦ next-first _ c.args.first.now c.args.second.now (search rules) (λ _. w.if-p-q.true)
            (omega (arith, c.min.ensures, w.if-p-q.true)) (ap (λ r. r.now) v.result-is) (ap (λ r. r.now) w.result-is)
        | else-p-q w ↦ next-both _ c.args.first.now c.args.second.now (search rules) (search rules)
            (omega (arith, v.if-q-p.false, w.if-p-q.false)) (omega (arith, c.min.ensures, w.if-p-q.false))
            (ap (λ r. r.now) v.result-is) (ap (λ r. r.now) w.result-is)
      ]
    ]
