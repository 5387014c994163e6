-- `evaluate::single::outputs` meets its contract.
use mathlib.Core.Path.{sym, ap, ◌∙◌}
use mathlib.Core.List.{map}
use native.Mathlib.Omega.{arith}
use lib.Dec.{lit<}
use lib.ListN.{length}
use lib.Seq.{length-sets}
use Rattle.netlist.specs.Eval.{bit}
use Rattle.netlist.specs.Services.{is_one, bools}
use Rattle.evaluate.proofs.Fronts.{copied-front, bits-long}
use Rattle.evaluate.proofs.Runs.{single-law}
use Rattle.evaluate.proofs.single.outputs.Goals as goal

pub returns : goal.returns
returns c N h =
    let words = c.args.words.now in
    let bits = c.args.bits.now in
    let fits = c.requires.bits_in_bounds in
    let k = bits-long is_one bits in
    let laid = copied-front (map bit (bools bits)) words c.bits.ensures (sym k) (omega (arith, k, fits.0)) in
    let wires = c.wires in
    single-law words bits _ wires.new.words _ h laid fits.0
    (wires.auto.words ∙ ap length laid ∙ length-sets words 0 (map bit (bools bits))) fits.1
    (wires.ensures 0 (lit< tt)) c.low_bits.ensures
