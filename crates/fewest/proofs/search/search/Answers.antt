-- `search::search`: where the search stands.
use Prim.Native.Nat.{◌+◌, ◌<◌}
use mathlib.Core.Path.{refl, sym, ◌∙◌}
use lib.ListN.{length}
use Rattle.fewest.proofs.Standing.{left-some, standing-first, standing-tried, span-some, found-floor, found-short}
use Rattle.fewest.proofs.Standing.{found-end, found-spent, low-here}
use Rattle.fewest.proofs.Advancing.{advanced-cut}
use native.Mathlib.Omega.{arith}
use Rattle.fewest.proofs.search.search.Goals as goal

pub loop-least-init : goal.loop-least-init
loop-least-init c =
    let p = c.requires.0.fits in
    let G = c.start-least in
    standing-first c.args.budget p.some c.requires.1 G.ensures (p.ways ∙ sym p.places) (sym p.places)
    (G.auto.wire_codes ∙ sym p.places) (omega (arith, p.some, p.places, p.lowest))
    (G.auto.least_before ∙ p.lowest ∙ sym p.places)

pub returns-then-least-least_before : goal.returns-then-least-least_before
returns-then-least-least_before c =
    let p = c.requires.0.fits in
    λ N Q. found-floor p.some (omega arith)
    c.start-least.ensures.spans
    c.loop-least.invariant (rw (sym p.places) at Q) _ c.if-least-least_before.true refl refl

pub returns-then-left-span : goal.returns-then-left-span
returns-then-left-span c =
    let p = c.requires.0.fits in
    λ N Q. found-short p.some (omega arith)
    c.start-least.ensures.spans c.loop-least.invariant (rw (sym p.places) at Q) _ c.if-left-span.true refl refl

pub returns-in_default : goal.returns-in_default
returns-in_default c =
    let p = c.requires.0.fits in
    let M = advanced-cut c.args.source.codes.now c.args.source.gates.results.now c.loop-least.stop
    (omega (arith, c.requires.0.fits.wired.results, c.loop-least.invariant.high)) c.in_default.ensures in
    λ N Q. found-end p.some (omega arith)
    c.start-least.ensures.spans c.loop-least.invariant
    (rw (sym p.places) at Q) c.if-left-span.false _ M refl refl

pub returns-then-left-eq0 : goal.returns-then-left-eq0
returns-then-left-eq0 c =
    let p = c.requires.0.fits in
    let M = advanced-cut c.args.source.codes.now c.args.source.gates.results.now c.loop-least.stop
    (omega (arith, c.requires.0.fits.wired.results, c.loop-least.invariant.high)) c.in-Some.ensures in
    λ N Q. found-spent p.some (omega arith)
    c.start-least.ensures.spans
    c.loop-least.invariant (rw (sym p.places) at Q)
    c.if-left-span.false c.in-Some.place M _
    c.if-left-eq0.true refl refl

pub try_choice-t-requires-clause-place_in_bounds : goal.try_choice-t-requires-clause-place_in_bounds
try_choice-t-requires-clause-place_in_bounds c =
    let p = c.requires.0.fits in
    let I = c.loop-least.invariant in
    let M = advanced-cut c.args.source.codes.now c.args.source.gates.results.now c.loop-least.stop
    (omega (arith, c.requires.0.fits.wired.results, c.loop-least.invariant.high)) c.in-Some.ensures in
    let Q = rw (sym p.places) at c.requires.0.source in
    let b : c.in-Some.place < length c.args.source.codes.now + c.args.source.gates.count
    = omega (arith, M.within, I.high) in (
      b,
      low-here p.some (omega arith) c.start-least.ensures.spans I Q c.if-left-span.false c.in-Some.place M b,
    )

pub loop-least-smaller : goal.loop-least-smaller
loop-least-smaller c =
    let p = c.requires.0.fits in
    let h = span-some p.some (omega arith)
    c.start-least.ensures.spans
    c.loop-least.invariant (rw (sym p.places) at c.requires.0.source) in
    omega (arith, c.if-left-span.false)

pub loop-least-preserved : goal.loop-least-preserved
loop-least-preserved c =
    let p = c.requires.0.fits in
    let I = c.loop-least.invariant in
    let M = advanced-cut c.args.source.codes.now c.args.source.gates.results.now c.loop-least.stop
    (omega (arith, c.requires.0.fits.wired.results, c.loop-least.invariant.high)) c.in-Some.ensures in
    let S = c.start-least.ensures.spans in
    let some = span-some p.some (omega arith) S I (rw (sym p.places) at c.requires.0.source) in
    let T = c.try_choice-t in
    standing-tried p.some (omega arith) S I c.in-Some.place
    c.if-left-span.false M
    some (left-some _ c.if-left-eq0.false) T.ensures
    (T.auto.best ∙ I.bests-long) (T.auto.wire_codes ∙ I.codes-long) (T.auto.least_before ∙ I.least_before-long)
