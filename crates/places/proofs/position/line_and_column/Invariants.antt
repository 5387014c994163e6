-- `line_and_column`: what stands before the bytes that are left.
use Rattle.places.proofs.Scanning.{Standing}
use Rattle.places.proofs.position.line_and_column.Given as goal

abbrev pub invariant-loop-i : goal.invariant-loop-i
invariant-loop-i l = Standing l.front l.line l.column l.i
