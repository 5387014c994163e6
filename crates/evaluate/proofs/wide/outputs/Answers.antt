-- `evaluate::wide::outputs` meets its contract.
use mathlib.Core.Path.{refl, ◌∙◌, ap}
use Rattle.std.proofs.Common.{rules}
use lib.ListN.{length}
use lib.Seq.{length-sets}
use Rattle.evaluate.proofs.Fronts.{copied-front}
use Rattle.evaluate.proofs.Runs.{wide-law}
use Rattle.evaluate.proofs.wide.outputs.Goals as goal

pub returns : goal.returns
returns c N h =
    let words = c.args.words.now in
    let list = c.args.list.now in
    let fits = c.requires.list_in_bounds in
    let laid = copied-front list words c.copy.ensures refl fits.0 in
    let wires = c.wires in
    wide-law words list _ wires.new.words h laid fits.0
    (wires.auto.words ∙ ap length laid ∙ length-sets words 0 list) fits.1
    _ (λ i. search rules) wires.ensures c.copy-2.ensures
