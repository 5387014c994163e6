-- `polynomial::of_wire`: the bits, then the coefficients.
use Rattle.std.proofs.Common.{◌∙◌}
use Rattle.explain.proofs.Polynomials.{polynomial-law}
use Rattle.explain.proofs.polynomial.of_wire.Goals as goal

pub returns : goal.returns
returns c = λ n o N h.
    let codes = c.args.codes.list.now in
    let bits = c.bits.ensures n o N h in
    polynomial-law N codes c.args.wire c.transform.new.table
    (c.transform.auto.table ∙ c.bits.auto.table ∙ c.requires.lengths.2)
    (c.transform.ensures _ bits)
