-- `tell`: the first number whose counts differ, and the ones of the setting that it stands for.
use mathlib.Core.Path.{◌≡◌, sym, ap, ◌∙◌}
use mathlib.Core.List.{List}
use mathlib.Core.Option.{some}
use Prim.Native.Nat.{ℕ}
use lib.ListN.{take}
use lib.Seq.{length-take-le}
use Rattle.leak_search.specs.Paint.{codes_of}
use Rattle.check_wide.specs.Sets.{picked}
use Rattle.check_wide.proofs.Passes.{codes-plain}
use Rattle.check_wide.proofs.Answers.{seeded-wire, not-higher, leak-told}
use native.Mathlib.Omega.{arith}
use Rattle.check_wide.proofs.search.tell.Goals as goal

pub returns-in_err-leak : goal.returns-in_err-leak
returns-in_err-leak c =
    let a = c.args in
    let p = c.requires.lengths in
    let m = c.at-m.result in
    let ps = c.seed.new.paints in
    let cs = a.job.codes.list.now in
    let B = c.blocks_of-blocks.result in
    let plain : codes_of ps ≡ cs = c.seed.ensures.coloured.codes ∙ ap codes_of c.lay.ensures
    ∙ codes-plain cs a.job.codes.small in
    let count = length-take-le m.count m.items (omega (arith, m.few, m.long)) in
    λ o pair ws N G L.
    let f = seeded-wire cs G a.wire c.requires.wired.1 (take m.count m.items) c.lay.new.paints ps c.at-m.ensures.0
    (c.seed.auto.paints ∙ c.lay.auto.paints ∙ p.0) c.seed.auto.paints c.seed.ensures B m.count count
    c.blocks_of-blocks.ensures.0 in
    absurd (not-higher G L c.requires.wired.1 p.2 ps plain f.1 B f.2 c.find-found.result.leak
    c.find-found.ensures.lowest (rw c.in_err-leak.was (omega arith)))

pub returns : goal.returns
returns c =
    let a = c.args in
    let p = c.requires.lengths in
    let m = c.at-m.result in
    let ps = c.seed.new.paints in
    let cs = a.job.codes.list.now in
    let B = c.blocks_of-blocks.result in
    let leak = c.in_ok-leak.leak in
    let plain : codes_of ps ≡ cs = c.seed.ensures.coloured.codes ∙ ap codes_of c.lay.ensures
    ∙ codes-plain cs a.job.codes.small in
    let count = length-take-le m.count m.items (omega (arith, m.few, m.long)) in
    λ o pair ws N G L.
    let f = seeded-wire cs G a.wire c.requires.wired.1 (take m.count m.items) c.lay.new.paints ps c.at-m.ensures.0
    (c.seed.auto.paints ∙ c.lay.auto.paints ∙ p.0) c.seed.auto.paints c.seed.ensures B m.count count
    c.blocks_of-blocks.ensures.0 in
    ap (λ (js : List ℕ). some (record { wire = a.wire; ones = js; base = leak.base; own = leak.own }))
    (c.pick.ensures ∙ ap (λ (js : List ℕ). picked js leak.setting) f.0)
    ∙ sym (leak-told G L c.requires.wired.1 p.2 ps plain f.1 B f.2 c.find-found.result.leak c.find-found.ensures.lowest
    leak c.in_ok-leak.was)
