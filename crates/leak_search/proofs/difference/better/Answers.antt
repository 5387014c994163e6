-- `check_leak::difference::better` meets its contract.
use borrow.Author.Rules.{rules}
use Rattle.leak_search.proofs.Differences.{better-law}
use Rattle.leak_search.proofs.difference.better.Goals as goal

pub returns : goal.returns
returns c =
    let a = c.args in
    rw c.or.ensures (λ f g W past scanned. better-law a.block a.best a.found c.map.result c.requires c.map.ensures.cases
    (λ p q k. search rules) past scanned)
