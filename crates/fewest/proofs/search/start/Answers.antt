-- `search::start`.
use Prim.Native.Nat.{◌-◌, ◌≤◌, ◌<◌}
use mathlib.Core.Path.{◌≡◌}
use lib.ListN.{length, set, length-set}
use Rattle.fewest.proofs.Trying.{low_first, low-room, entered-most, begun-whole, begun_all}
use Rattle.fewest.proofs.Spanning.{spanned-cut}
use native.Mathlib.Omega.{arith}
use Rattle.gates.specs.Gates.{tables_of}
use Rattle.fewest.proofs.search.start.Goals as goal
use Rattle.netlist.specs.declared.Sizes.TheVariants.{Whole}
use Rattle.netlist.specs.Netlist.{small_wires}

pub walk_from-requires-clause-count_in_bounds : goal.walk_from-requires-clause-count_in_bounds
walk_from-requires-clause-count_in_bounds c =
    let p = c.requires.0 in
    let few : c.args.source.gates.count ≤ small_wires Whole = omega (arith, p.places, p.small) in
    let some : 0 < length c.args.least_before.now = omega (arith, p.lowest, p.places, p.some) in
    let low = low_first (tables_of c.args.source.gates) c.args.source.gates.count c.args.least_before.now some
    c.twices.ensures in (
      omega (arith, p.places, p.ways, c.fill.auto.self),
      omega (arith, p.places),
      omega (arith, p.lowest, p.places, p.some, length-set c.args.least_before.now 0 c.twices.result),
      omega arith,
      low-room (length c.args.source.codes.now) c.args.source.gates.count
          (set c.args.least_before.now 0 c.twices.result) low few,
    )

pub count_changes-requires : goal.count_changes-requires
count_changes-requires c =
    let p = c.requires.0 in
    let few : c.args.source.gates.count ≤ small_wires Whole = omega (arith, p.places, p.small) in
    let some : 0 < length c.args.least_before.now = omega (arith, p.lowest, p.places, p.some) in
    let low = low_first (tables_of c.args.source.gates) c.args.source.gates.count c.args.least_before.now some
    c.twices.ensures in
    let E = c.walk_from in
    let e = begun-whole E.ensures low few in
    let long = length-set c.args.least_before.now 0
    c.twices.result in
    let z : 0 - length c.args.source.codes.now ≡ 0 = omega arith in
    let m = rw (e, z) at (entered-most E.ensures) in (
      omega (arith, p.lowest, p.places, p.some, long, E.auto.least_before),
      omega (arith, p.outs, E.auto.wire_codes),
      omega (arith, p.outs, p.small),
      omega arith,
    )

pub returns : goal.returns
returns c =
    let p = c.requires.0 in
    let few : c.args.source.gates.count ≤ small_wires Whole = omega (arith, p.places, p.small) in
    let some : 0 < length c.args.least_before.now = omega (arith, p.lowest, p.places, p.some) in
    let low = low_first (tables_of c.args.source.gates) c.args.source.gates.count c.args.least_before.now some
    c.twices.ensures in
    let E = c.walk_from in
    let e = begun-whole E.ensures low few in
    begun_all (c.fill.ensures.after (λ y e. e))
    (spanned-cut c.args.source.codes.now c.args.source.gates.results.now c.args.source.gates.count p.wired.results
    c.spans.ensures)
    c.twices.ensures e
    E.ensures c.copy.ensures c.count_changes.ensures
