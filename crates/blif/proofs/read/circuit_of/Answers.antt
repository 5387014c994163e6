-- `circuit_of` meets its contract: naming wires changes no gate, and a run of a well-formed netlist satisfies its gates.
use Rattle.std.proofs.Common.{ℕ, List, subst, sym}
use Rattle.std.specs.List.{All}
use Rattle.netlist.specs.declared.Gate.{Gate}
use Rattle.netlist.specs.Eval.{bits_at, wire_bits}
use Rattle.cells.specs.Computes.{Holds}
use Rattle.cells.proofs.Runs.{runs}
use Rattle.blif.specs.Meaning.{StatementHolds}
use Rattle.blif.proofs.read.circuit_of.Goals as goal

covers : goal.returns-clause-covers
covers c u holds =
    let same = c.in_ok-wired.ensures.gates in
    let gates = subst (λ (gs : List Gate). Holds u gs) same.0 holds in
    let over = λ (wires : List ℕ). All (StatementHolds u wires) c.args.model.now.statements.items in
    subst over (sym same.1) (c.in-Ok-build_model.ensures u gates)

pub returns-clause-covers : goal.returns-clause-covers
returns-clause-covers c = covers c

pub returns-clause-runs : goal.returns-clause-runs
returns-clause-runs c N F e ins =
    let u = bits_at (wire_bits N ins) in
    covers c u (subst (λ (gs : List Gate). Holds u gs) e (runs N ins F))
