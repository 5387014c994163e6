-- `certify_pass::inputs::input_record` meets its contract.
use Rattle.certify.proofs.InputWires.{input-known, mask-is}
use native.Mathlib.Omega.{arith}
use mathlib.Core.Path.{ap, ◌∙◌}
use Prim.Native.Nat.{ℕ, ◌*◌}
use lib.Bits.{bit_xor}
use borrow.Author.Tests.{lt-leb}
use Rattle.std.specs.Prelude.{Some}
use Rattle.certify_records.specs.Record.{over}
use Rattle.certify.proofs.inputs.input_record.Goals as goal

pub returns-clause-says : goal.returns-clause-says
returns-clause-says c = λ N codes M h e. rw c.over.ensures (input-known M c.args.index c.mask.result c.args.code
    (omega arith) h e c.mask.ensures)

pub returns-clause-is : goal.returns-clause-is
returns-clause-is c =
    let a = c.args in
    let e = mask-is c.mask.result a.code c.mask.type_inv c.mask.ensures in
    rw (lt-leb 268435456 a.index (omega arith))
    (ap Some c.over.ensures ∙ ap (λ (t : ℕ). Some (over (bit_xor t 0xf0f0_f0f0_f0f0_f0f0) (8 * a.index))) e)
