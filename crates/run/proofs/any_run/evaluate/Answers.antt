-- `evaluate`: the outputs on the front of the words.
use mathlib.Core.Path.{refl}
use lib.Seq.{length-take-le}
use Rattle.run.proofs.Delivered.{holds-wires, holds-out, holds-list, gives-done}
use Rattle.run.proofs.any_run.evaluate.Goals as goal

pub returns : goal.returns
returns g c = λ N h.
    let laws = g.met.T.Entry.laws in
    let list = c.args.list.now in
    let e = c.if-not-admits.ensures in
    let z = length-take-le c.args.header.wires c.args.words.now c.requires.2 in
    let l = length-take-le c.args.header.output_bits c.args.out.now c.if-out-outs.false in
    gives-done laws list e h c.args.header.inputs_are_wires c.requires.1 c.if-out-outs.false
    (c.outputs.ensures N (holds-wires z (holds-out l (holds-list laws list e h)))) refl
