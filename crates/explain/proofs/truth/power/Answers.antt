-- `truth::power`: a shifted one.
use Rattle.std.proofs.Common.{arith}
use lib.Dec.{lit<}
use lib.Pow.{shl_exact}
use Rattle.explain.proofs.truth.power.Goals as goal

pub returns : goal.returns
returns c =
    let e = shl_exact {a = 1} 1 c.args.exponent 64 (lit< tt) (omega (arith, c.requires)) in
    omega (arith, e)
