-- `counts::of_wire`: the bits of settings and of bases, and the numbers.
use Rattle.std.proofs.Common.{arith, ℕ, List, length, subst}
use lib.Pow.{pow-add}
use Rattle.netlist.specs.Services.{delivered, Answers}
use Rattle.causes.proofs.Judging.{holds-at}
use Rattle.explain.proofs.Counting.{counts-law}
use Rattle.explain.proofs.counts.of_wire.Goals as goal

pub tell-requires : goal.tell-requires
tell-requires c =
    let p = pow-add 2 (length c.args.codes.list.now) 2 in
    let q = c.requires.lengths in
    (q.0, omega (arith, p, q.3, c.bits-2.auto.table), omega (arith, p, q.2, c.bits.auto.table))

pub returns : goal.returns
returns c = λ n o N h.
    let a = c.args in
    let p = pow-add 2 (length a.codes.list.now) 2 in
    let q = c.requires.lengths in
    let own = c.bits.ensures n o N h in
    let base = c.bits-2.ensures n o N (holds-at c.bits.auto.words h) in
    subst (λ (bs : List ℕ). Answers (delivered (length a.out.now) bs) a.out.now c.tell.new.out c.tell.result)
    (counts-law N a.codes.list.now a.wire c.bits-2.new.table c.bits.new.table base own
    (omega (arith, p, q.3, c.bits-2.auto.table)) (omega (arith, p, q.2, c.bits.auto.table))) c.tell.ensures
