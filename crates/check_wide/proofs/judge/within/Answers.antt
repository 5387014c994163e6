-- `within`: the sets, question 12, and the search.
use mathlib.Core.Path.{sym, subst}
use Prim.Native.Nat.{ℕ, ◌+◌}
use lib.ListN.{length}
use Rattle.netlist.specs.Table.{Holds}
use Rattle.gates.specs.Gates.{tables_of}
use Rattle.check_wide.specs.Packed.{sets, Sized}
use Rattle.check_wide.proofs.Fews.{wires-many, pairs-many, given, all-few, told-both}
use Rattle.check_wide.proofs.judge.within.Goals as goal

pub returns-then-not-reach : goal.returns-then-not-reach
returns-then-not-reach c =
    let a = c.args in
    let r = c.reach in
    let S = sets r.new.set0 r.new.set1 r.new.set2 r.new.set3 in
    let t = tables_of a.gates in
    λ o N H F. wires-many S a.codes.list.now a.pairs.now H c.requires.wired.1 (c.if-not-reach.true)
    (r.ensures.1 o N (subst (λ (Y : ℕ). Holds t a.gates.count Y (length a.codes.list.now + 2) o N)
    (sym c.requires.lengths.4) H) F)

pub returns-then-not-pairs_few : goal.returns-then-not-pairs_few
returns-then-not-pairs_few c =
    let a = c.args in
    let r = c.reach in
    let S = sets r.new.set0 r.new.set1 r.new.set2 r.new.set3 in
    let t = tables_of a.gates in
    λ o N H F. pairs-many S a.codes.list.now a.pairs.now H c.requires.wired.1
    (c.if-not-reach.false)
    (r.ensures.1 o N (subst (λ (Y : ℕ). Holds t a.gates.count Y (length a.codes.list.now + 2) o N)
    (sym c.requires.lengths.4) H) F)
    (c.pairs_few.ensures.1 (c.if-not-pairs_few.true))

pub returns : goal.returns
returns c =
    let a = c.args in
    let q = c.requires.lengths in
    let r = c.reach
    in
    let S = sets r.new.set0 r.new.set1 r.new.set2 r.new.set3 in
    let t = tables_of a.gates in
    let y = c.if-not-reach.false in
    λ o N H F.
    let R = r.ensures.1 o N (subst (λ (Y : ℕ). Holds t a.gates.count Y (length a.codes.list.now + 2) o N) (sym q.4) H) F
    in
    let g = c.search.ensures o N
    (given S a.codes.list.now a.pairs.now H c.requires.wired.1 y R) in
    all-few S a.codes.list.now a.pairs.now H c.requires.wired.1 y R (subst (Sized S) q.4 (r.ensures.0 y))
    (c.pairs_few.ensures.0
    (c.if-not-pairs_few.false))
    (told-both g.0 g.1)
