-- The part of the table that the literals stand in is its end.
use mathlib.Core.Path.{refl}
use mathlib.Core.Bool.{true}
use Rattle.from_aiger.proofs.OutGates.{read-end, outputs-large, outputs-put}
use Rattle.from_aiger.proofs.output_gates.outputs.Goals as goal

pub returns-then-count-room : goal.returns-then-count-room
returns-then-count-room c =
    let a = c.args in
    let read = read-end a.table.now a.results.now a.room _ true c.if-not-are_readable.false c.are_readable.ensures.0 in
    record {
      read = read;
      keeps = λ e. outputs-put a.results.now a.room a.inputs a.count c.requires.0
          c.if-count-room.true c.put_outputs.ensures read;
    }

pub returns-else-count-room : goal.returns-else-count-room
returns-else-count-room c =
    let a = c.args in
    record {
      read = read-end a.table.now a.results.now a.room _ true c.if-not-are_readable.false c.are_readable.ensures.0;
      keeps = λ e. outputs-large a.results.now a.room a.inputs a.count c.requires.0 c.if-count-room.false refl;
    }
