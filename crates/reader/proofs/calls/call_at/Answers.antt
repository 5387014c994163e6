-- `call_at`: the calls made so far.
use Rattle.reader.proofs.Calling.{calling-stays, calling-end}
use Rattle.reader.proofs.calls.call_at.Goals as goal

pub returns-then-c-reader : goal.returns-then-c-reader
returns-then-c-reader c =
    let s = c.ask-c.ensures.1 in
    calling-stays c.loop.invariant.1 (rw c.loop.invariant.0 at s) c.if-c-reader.true

pub returns : goal.returns
returns c =
    let s = c.current.ensures in
    calling-end c.loop.invariant.1 (rw c.loop.invariant.0 at s) c.loop-test.false
