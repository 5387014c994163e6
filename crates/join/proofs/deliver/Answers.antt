-- `deliver`: questions 25 and 5, and then 14 and the text.
use Rattle.std.proofs.Common.{arith, refl, sym}
use Rattle.netlist.specs.Netlist.{masked_limits}
use Rattle.join.proofs.Calling.{seam-meets, join-25, join-5, join-14, joined-form, delivers-as}
use Rattle.join.proofs.deliver.Goals as goal

pub returns-then-not-seam_holds : goal.returns-then-not-seam_holds
returns-then-not-seam_holds c = λ A B F S.
    let a = c.args in
    join-25 F S (masked_limits a.sizes) a.out_codes.now a.codes.now a.out.now (sym c.if-not-seam_holds.ensures)

pub returns-then-masked_limits-wires : goal.returns-then-masked_limits-wires
returns-then-masked_limits-wires c = λ A B F S.
    let a = c.args in
    join-5 F S (masked_limits a.sizes) a.out_codes.now a.codes.now a.out.now (sym c.if-not-seam_holds.ensures)
    (rw c.masked_limits.ensures at c.if-masked_limits-wires.true)

pub invariant_of-seam : goal.invariant_of-seam
invariant_of-seam c =
    let a = c.args in
    let p = c.requires.blocks in
    record {
      meeting = seam-meets a.left a.out_codes.now a.right a.codes.now p.0 p.1 p.2 (sym c.if-not-seam_holds.ensures)
          (omega (arith, c.if-masked_limits-wires.false));
    }

pub returns : goal.returns
returns c = λ A B F S.
    let a = c.args in
    join-14 F S (masked_limits a.sizes) a.out_codes.now a.codes.now a.out.now (sym c.if-not-seam_holds.ensures)
    (rw c.masked_limits.ensures at c.if-masked_limits-wires.false)
    (delivers-as (joined-form F S _ (refl, refl, refl, refl) c.append.ensures) c.deliver.ensures)
