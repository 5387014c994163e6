-- `pairs_good`: question 21.
use Rattle.std.proofs.Common.{rules, ◌<◌, ◌↔◌, IsTrue, EachIndex, get_or, ltb}
use borrow.Author.Tests.{lt-ltb, ltb-true}
use Rattle.questions.proofs.Ranges.{every-from_iff}
use Rattle.check_pairs.proofs.Judging.{good-even}
use Rattle.check_pairs.proofs.judge.pairs_good.Goals as goal

pub returns-then-pairs-eq0 : goal.returns-then-pairs-eq0
returns-then-pairs-eq0 c =
    let ws = c.args.pairs.now in
    let W = c.args.wires in
    let all : IsTrue c.all.result ↔ EachIndex ws (λ k. get_or ws k 0 < W) = search rules in
    good-even W ws c.if-pairs-eq0.true (every-from_iff (λ w. ltb w W) (λ w. w < W) (λ w. lt-ltb w W) (λ w. ltb-true w W)
    ws c.all.result all)
