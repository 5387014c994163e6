-- `certify_netlist::tell_leak` meets its contract.
use mathlib.Core.Path.{refl}
use mathlib.Core.Logic.{inl, inr, ⊎_elim}
use Rattle.certify.proofs.Telling.{leak-short, leak-told}
use Rattle.certify.proofs.judge.tell_leak.Goals as goal

pub returns-then-leak-lt4 : goal.returns-then-leak-lt4
returns-then-leak-lt4 c = λ N codes words e room h W v. (
  refl,
  leak-short codes words c.count-many.result e room h W c.count-many.ensures c.args.leak.now c.args.ones.now
      (⊎_elim (λ a. inl a) (λ b. inr b.1) c.then-leak-lt4.either),
  refl,
  refl,
)

pub returns : goal.returns
returns c = λ N codes words e room h W v.
    rw (c.from.ensures, c.from-2.ensures)
    (leak-told codes words c.count-many.result e room h W c.count-many.ensures c.args.leak.now c.args.ones.now
    c.if-leak-lt4.false c.if-ones-many.false c.write.ensures)
