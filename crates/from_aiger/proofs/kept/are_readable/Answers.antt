-- A test of each literal.
use Rattle.std.proofs.Common.{rules, tests, arith, ◌<◌, ◌^◌}
use Rattle.std.proofs.lemmas.Iterator.{YieldsList-from_slice, cases_from_all}
use Rattle.std.proofs.lemmas.Iterator.Adapters.{serves_from_places}
use Rattle.std.proofs.lemmas.Grind.{get_or_default_zero}
use Rattle.from_aiger.proofs.KeptLines.{Good, Bad, all-readable}
use Rattle.from_aiger.proofs.kept.are_readable.Goals as goal

pub all-requires-clause-callable : goal.all-requires-clause-callable
all-requires-clause-callable c =
    serves_from_places (YieldsList-from_slice c.args.kept.now cc) (λ x q k. search (rules, tests)) (λ x k l e.
    let low : x.now < 2 ^ 32 = omega (arith, c.requires k l, e, get_or_default_zero c.args.kept.now k x.now l)
    in search rules)

pub returns : goal.returns
returns c =
    let t = c.args.table.now in
    all-readable t c.args.kept.now c.all.result
    (cases_from_all _ _ _ (Good t) (Bad t) c.all.ensures.ran (YieldsList-from_slice c.args.kept.now cc)
    (λ x q k. search (rules, tests)) (λ x q k. search (rules, tests)))
