-- `choose`: the search on the fronts of the tables, and its choice put to use.
use mathlib.Core.Path.{sym, ◌∙◌}
use Prim.Native.Nat.{◌-◌}
use mathlib.Core.List.{◌++◌}
use lib.ListN.{length, take, drop, length-drop}
use lib.Seq.{take_all, length-take-le, length_front}
use Rattle.fewest.proofs.Applying.{swapped-cut, wired-chosen}
use Rattle.mask_fewest.proofs.Giving.{places, fits-fronts, chose}
use native.Mathlib.Omega.{arith}
use Rattle.mask_fewest.proofs.choose.Goals as goal

pub search-r-requires : goal.search-r-requires
search-r-requires c =
    let a = c.args in let p = c.requires.0 in let W = a.header.wires in let m = length-take-le W a.marks.now
    p.fronts.marks
    in (
      record {
        fits = fits-fronts (take W a.ways.now) (take W a.best.now) (take W a.marks.now) (take W a.wires.now) p.source
            p.fronts.wired p.fronts.few (length-take-le W a.ways.now p.ways) (length-take-le W a.best.now p.best) m
            (length-take-le W a.wires.now p.fronts.wires);
        spanned = length-take-le W a.spans.now p.spans ∙ sym m;
        netlist = p.netlist;
        source = rw m
            p.source;
      },
      c.requires.1,
    )

pub swap-requires : goal.swap-requires
swap-requires c =
    let p = c.requires.0 in
    let R = c.search-r in
    let f = length_front c.args.best.now R.new.best c.args.header.wires R.auto.best in
    let pl = places p.source in
    let l = length-take-le c.args.header.gates c.args.results.now p.fronts.wired.results in (
      omega (arith, l, p.fronts.wired.operands),
      omega (arith, l, p.best),
    )

pub returns : goal.returns
returns c =
    let a = c.args in let p = c.requires.0 in let W = a.header.wires in
    let R = c.search-r in let m = length-take-le W a.marks.now p.fronts.marks in
    let g = length_front a.ways.now R.new.way W R.auto.way in let pl = places p.source in
    let n = length a.codes.now in
    let best = R.new.best ++ drop W a.best.now in
    let l = length-drop n best in
    let S = rw (take_all (length best - n) (drop n best) (omega arith)) at
    (swapped-cut a.header.gates p.fronts.wired.results c.swap.ensures) in (
      wired-chosen S p.fronts.wired,
      λ N Q. chose N
          R.new.best a.best.now Q c.requires.1 (R.auto.best ∙ length-take-le W a.best.now p.best)
          (R.ensures N (rw m Q)) S c.codes.ensures
          (omega (arith, p.ways)),
    )
