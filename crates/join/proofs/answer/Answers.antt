-- `answer`: the first text read, and then the second.
use Rattle.std.proofs.lemmas.Result.{err_from_is_err_and}
use Rattle.join.proofs.Calling.{block_read, block-numbers, block-first, call-not, call-read}
use Rattle.join.proofs.answer.Goals as goal

pub returns-in_err-a : goal.returns-in_err-a
returns-in_err-a c =
    let s = c.args in
    let p = err_from_is_err_and c.from_residual.result c.from_residual.ensures.1 in
    rw (p.1, p.2) (call-not s.sizes s.first.now s.second.now s.codes.now s.out_codes.now s.inner.now s.out.now
    s.operands.now s.results.now
    s.marks.now s.words.now s.base.now _ c.in_err-a.ensures)

pub read_second-requires-clause-first : goal.read_second-requires-clause-first
read_second-requires-clause-first c = block-numbers c.in_ok-a.ensures.1

pub returns : goal.returns
returns c =
    let s = c.args in
    let k = c.in_ok-a.ensures in
    call-read s.sizes s.first.now s.second.now s.codes.now s.out_codes.now s.inner.now s.out.now s.operands.now
    s.results.now s.marks.now s.words.now
    s.base.now k.0 (block_read k.1) (c.read_second.ensures k.1.at.is (block-first k.1))
