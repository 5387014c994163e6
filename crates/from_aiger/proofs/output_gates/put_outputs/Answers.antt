-- The gates of the first i literals were put.
use mathlib.Core.Path.{refl}
use lib.ListN.{length-drop}
use Rattle.from_aiger.proofs.OutGates.{putting-more, putting-all, next-literal}
use native.Mathlib.Omega.{arith}
use Rattle.from_aiger.proofs.output_gates.put_outputs.Goals as goal

pub overflow_cast-x : goal.overflow_cast-x
overflow_cast-x c =
    let d = length-drop c.args.room c.args.results.now in
    let l = c.requires.3 c.loop-i.i (omega arith) in
    omega (arith, next-literal c.loop-i.invariant (omega arith))

pub out_gate-requires : goal.out_gate-requires
out_gate-requires c =
    let d = length-drop c.args.room c.args.results.now in (
      omega (arith, c.requires.2),
      rw (next-literal c.loop-i.invariant (omega arith)) (c.requires.4 c.loop-i.i (omega arith)),
    )

pub loop-i-preserved : goal.loop-i-preserved
loop-i-preserved c = putting-more c.loop-i.invariant (omega arith) c.requires.0 refl c.out_gate.auto.results
    c.out_gate.ensures

pub returns : goal.returns
returns c = let d = length-drop c.args.room c.args.results.now in putting-all c.loop-i.invariant (omega arith)
