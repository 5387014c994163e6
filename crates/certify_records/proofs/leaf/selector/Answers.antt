-- `certify_records::leaf::selector` meets its contract.
use Rattle.evaluate.specs.Lane.{lane}
use Prim.Native.Nat.{ℕ, ◌/◌, ◌^◌, ◌%◌}
use mathlib.Core.Path.{ap}
use lib.Bits.{bit_and, bit_xor}
use Rattle.evaluate.proofs.Words.{word-known}
use Rattle.certify_records.proofs.Selectors.{selects}
use Rattle.certify_records.proofs.leaf.selector.Goals as goal

pub returns-clause-says : goal.returns-clause-says
returns-clause-says c = selects _ _ _ c.spread.ensures

pub returns-clause-is : goal.returns-clause-is
returns-clause-is c =
    let a = c.args.atom in
    ap (λ (n : ℕ). bit_and (bit_xor (c.args.table / 2 ^ (a / 2 % 4)) n) 0x1111_1111_1111_1111)
    (word-known c.spread.result (λ j. lane 0 a) c.spread.type_inv c.spread.ensures)
