-- `pass`: the colours, and the search of the settings that they give.
use mathlib.Core.Path.{◌≡◌, sym, ap, subst, ◌∙◌}
use mathlib.Core.List.{List}
use Prim.Native.Nat.{ℕ, ◌+◌, ◌*◌, ◌≤◌, ◌<◌}
use lib.ListN.{length, get_or}
use lib.Seq.{length-take-le, get_or-take}
use Rattle.leak_search.specs.Paint.{codes_of}
use Rattle.check_wide.specs.PaintColours.{Upto, Seeded}
use Rattle.check_wide.specs.Items.{item_set, Serving}
use Rattle.check_wide.proofs.Passes.{codes-plain, codes-upto, skipped, passed, lower-wire, lower-pair}
use native.Mathlib.Omega.{arith}
use Rattle.gates.specs.Gates.{tables_of}
use Rattle.check_wide.specs.WireSets.{sets_of}
use Rattle.check_wide.proofs.pass.pass.Goals as goal

pub returns-then-marked : goal.returns-then-marked
returns-then-marked c = (omega arith, omega arith, λ o n N G l k J. skipped (sym c.marked.ensures ∙ c.if-marked.true) J)

pub most-requires : goal.most-requires
most-requires c =
    c.serve_all.ensures.kept.coloured.upto
    (c.seed.ensures.coloured.upto
    (subst (Upto 12) (sym
    c.lay.ensures)
    (codes-upto c.args.job.codes.list.now c.args.job.codes.small)))

pub find-found-requires-clause-lengths : goal.find-found-requires-clause-lengths
find-found-requires-clause-lengths c =
    let p = c.requires.lengths in
    let a = c.args in
    let long = c.serve_all.auto.paints ∙
    c.seed.auto.paints ∙ c.lay.auto.paints ∙ p.0 in
    let two : 2 * a.worst.pair ≤ length a.job.items.pairs.now = omega (arith, p.6) in
    let e = length-take-le (2 * a.worst.pair) a.job.items.pairs.now two in (
      omega (arith, p.2, long),
      p.3,
      p.4,
      c.blocks_of-blocks.ensures.1,
      p.5,
      λ i l. let g = get_or-take (2 * a.worst.pair) a.job.items.pairs.now i 0 (omega (arith, l, e)) in
          omega (arith, g, a.job.items.below i (omega (arith, l, e, two)), p.1),
    )

pub returns : goal.returns
returns c =
    let p = c.requires.lengths in
    let a = c.args in
    let S = sets_of a.job.items.sets in
    let W = length a.words.now in
    let ws = a.job.items.pairs.now in
    let lay = c.lay in
    let seed = c.seed in
    let serve = c.serve_all in
    let ps₀ = lay.new.paints in
    let ps₁ = seed.new.paints in
    let ps = serve.new.paints in
    let ms = serve.new.marks in
    let plain : codes_of ps ≡ a.job.codes.list.now = serve.ensures.kept.coloured.codes ∙ seed.ensures.coloured.codes
    ∙ ap codes_of lay.ensures ∙ codes-plain
    a.job.codes.list.now a.job.codes.small in
    let item = c.set-m.ensures ∙ ap (λ (Y : ℕ). item_set S ws Y (a.start + a.item)) p.1 in
    let seeded = subst (λ (is : List ℕ). Seeded is ps₀ ps₁) item seed.ensures in
    let served = subst (λ (Y : ℕ). Serving S ws Y a.start a.marks.now ms ps₁ ps) p.1 serve.ensures in
    let below : (i : ℕ) → i < length ws → get_or ws i 0 < W = λ i l. omega (arith, c.args.job.items.below i l, p.1) in
    let t = tables_of a.job.gates in
    let most = c.most in
    let even : 2 * a.worst.pair ≤ length ws = omega (arith, p.6) in
    let find = c.find-found in
    rw (c.limit.ensures, c.unwrap_or.ensures) (
      lower-wire t a.job.gates.count W S a.job.codes.list.now ws below p.2 ps plain most.result
          c.blocks_of-blocks.result a.worst.wire
          a.worst.pair most.ensures.1
          c.blocks_of-blocks.ensures.0 even find.result
          find.ensures,
      lower-pair t a.job.gates.count W S a.job.codes.list.now ws below p.2 ps plain most.result
          c.blocks_of-blocks.result a.worst.wire
          a.worst.pair most.ensures.1
          c.blocks_of-blocks.ensures.0 even find.result
          find.ensures,
      λ o n N G l k J. passed t a.job.gates.count W S a.job.codes.list.now ws below p.2 ps plain most.result
          c.blocks_of-blocks.result a.worst.wire
          a.worst.pair most.ensures.1
          c.blocks_of-blocks.ensures.0 even find.result
          find.ensures
          G a.start a.item n l k (ap length lay.ensures) seeded served J,
    )
