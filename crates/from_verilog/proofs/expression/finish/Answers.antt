-- By the sign.
use mathlib.Core.Path.{refl}
use Rattle.from_verilog.proofs.expression.finish.Goals as goal

pub returns-then-negated : goal.returns-then-negated
returns-then-negated c =
    rw c.if-negated.true
    (record {
      start = _;
      token = c.next-token.ensures;
      value = refl;
      free = refl;
      stored =
          c.put.ensures;
    })

pub returns : goal.returns
returns c = rw c.if-negated.false (record {
  start = _;
  token = c.next-token.ensures;
  value = refl;
  free = refl;
  stored
      = refl;
})
