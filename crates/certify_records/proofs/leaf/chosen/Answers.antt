-- `certify_records::leaf::chosen` meets its contract.
use mathlib.Core.Path.{refl, ap, ◌∙◌}
use Prim.Native.Nat.{◌%◌}
use lib.Bits.{bit_xor, xor_lt}
use lib.Count.{count_trailing_zeros}
use borrow.Author.Rules.{rules}
use borrow.Author.Tests.{eq-eqb}
use Rattle.leak_search.proofs.Nibbles.{first-law}
use Rattle.certify_records.proofs.Leaves.{decides, repeat-is, chosen-no, chosen-yes}
use Rattle.certify_records.specs.Made.{repeated, chosen_by}
use native.Mathlib.Omega.{arith}
use Rattle.certify_records.proofs.leaf.chosen.Goals as goal

pub at-requires : goal.at-requires
at-requires c = (first-law (bit_xor c.args.table c.repeat-low.result)
    (xor_lt 64 c.args.table c.repeat-low.result (search rules) c.repeat-low.type_inv) c.if-x-eq0.false).0

pub returns-clause-says : goal.returns-clause-says
returns-clause-says c =
    let t = c.args.table in
    decides t c.repeat-low.result c.repeat-d.result c.at.result
    (count_trailing_zeros 64 (bit_xor t c.repeat-low.result) % 4) (omega arith)
    c.repeat-low.ensures c.repeat-d.ensures c.if-x-m.false

pub returns-then-x-eq0-clause-is : goal.returns-then-x-eq0-clause-is
returns-then-x-eq0-clause-is c =
    let e = repeat-is c.repeat-low.result c.args.table c.repeat-low.type_inv c.repeat-low.ensures in
    rw (← e) (rw (eq-eqb (bit_xor c.args.table c.repeat-low.result) 0 c.if-x-eq0.true) refl)

pub returns-then-x-m-clause-is : goal.returns-then-x-m-clause-is
returns-then-x-m-clause-is c =
    let t = c.args.table in
    let d = repeat-is c.repeat-d.result c.at.result c.repeat-d.type_inv c.repeat-d.ensures in
    chosen-no t c.repeat-low.result c.repeat-d.result c.if-x-eq0.false (d ∙ ap repeated c.at.ensures) c.if-x-m.true
    ∙ ap (chosen_by t) (repeat-is c.repeat-low.result t c.repeat-low.type_inv c.repeat-low.ensures)

pub returns-clause-is : goal.returns-clause-is
returns-clause-is c =
    let t = c.args.table in
    let d = repeat-is c.repeat-d.result c.at.result c.repeat-d.type_inv c.repeat-d.ensures in
    chosen-yes t c.repeat-low.result c.repeat-d.result c.if-x-eq0.false (d ∙ ap repeated c.at.ensures) c.if-x-m.false
    ∙ ap (chosen_by t) (repeat-is c.repeat-low.result t c.repeat-low.type_inv c.repeat-low.ensures)
