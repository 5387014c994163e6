-- `store`: the gate's entries are put after the first.
use Rattle.gates.proofs.EntriesLaws.{gate-entered, stored}
use native.Mathlib.Omega.{arith}
use Rattle.reader.proofs.gate_lines.store.Goals as goal

pub returns : goal.returns
returns c = λ W n. stored _ (record { operands = c.requires.0; results = c.requires.1 })
    (gate-entered c.args.gate (omega arith) (omega arith) W c.from.ensures n)
    c.put.ensures
