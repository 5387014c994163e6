-- `evaluate::wires` meets its contract.
use Rattle.gates.specs.Gates.{tables_of}
use Rattle.evaluate.proofs.Runs.{wires-law}
use Rattle.evaluate.proofs.wires.Goals as goal

pub returns : goal.returns
returns c j l =
    let clear = c.fill in
    let run = c.run in
    wires-law (tables_of c.args.gates) c.args.gates.count c.args.ins c.args.words.now
    clear.new.self run.new.words c.requires.ins_in_bounds (clear.ensures.after (λ y e. e)) j (run.ensures j l)
