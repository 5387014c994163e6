-- `all_up_to`: every entry is in the range.
use Rattle.std.proofs.Common.{rules, ◌≤◌, ◌↔◌, IsTrue, EachIndex, get_or}
use Rattle.std.proofs.lemmas.Bool.{le-leb, leb-true}
use Rattle.questions.specs.Range.{up_to}
use Rattle.questions.proofs.Ranges.{every-from_iff}
use Rattle.questions.proofs.all_up_to.Goals as goal

pub returns : goal.returns
returns c =
    let list = c.args.list.now in
    let most = c.args.most in
    let all : IsTrue c.all.result ↔ EachIndex list (λ k. get_or list k 0 ≤ most) = search rules in
    every-from_iff (up_to most) (λ e. e ≤ most) (λ e. le-leb e most) (λ e. leb-true e most) list c.all.result all
