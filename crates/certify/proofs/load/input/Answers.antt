-- `certify_search::load::input` meets its contract.
use mathlib.Core.Path.{ap}
use Prim.Native.Nat.{ℕ, ◌*◌, ◌/◌, ◌^◌}
use lib.Bits.{bit_and, bit_xor}
use borrow.Author.Tests.{eq-eqb, ne_eqb}
use Rattle.evaluate.specs.Lane.{lane}
use Rattle.evaluate.proofs.Words.{word-known}
use Rattle.certify.proofs.InputWires.{mask-is}
use Rattle.certify.proofs.Rounds.{secret-word}
use Rattle.certify.proofs.load.input.Goals as goal

pub returns-clause-says : goal.returns-clause-says
returns-clause-says c = secret-word c.args.noise c.args.code c.mask.result c.if-code-eq0.false c.mask.ensures

pub returns-clause-is : goal.returns-clause-is
returns-clause-is c =
    rw (ne_eqb c.args.code 0 c.if-code-eq0.false)
    (ap (bit_xor (bit_and (bit_and c.args.noise 0xffff_ffff_ffff_fff0 / 2 ^ 2) 0x1111_1111_1111_1111 * 15))
    (mask-is c.mask.result c.args.code c.mask.type_inv c.mask.ensures))

pub returns-then-code-eq0-clause-is : goal.returns-then-code-eq0-clause-is
returns-then-code-eq0-clause-is c =
    rw (eq-eqb c.args.code 0 c.if-code-eq0.true) (word-known c.spread.result (λ (j : ℕ). lane 32 c.args.noise)
    c.spread.type_inv c.spread.ensures)
