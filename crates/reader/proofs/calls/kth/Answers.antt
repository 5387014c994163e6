-- `kth`: the opening, and then the calls.
use Rattle.std.proofs.lemmas.Result.{err_from_is_err_and}
use Rattle.reader.proofs.Calling.{reader-no}
use borrow.Author.Rules.{rules}
use Rattle.reader.proofs.calls.kth.Goals as goal

pub returns-in_err-reader : goal.returns-in_err-reader
returns-in_err-reader c =
    let p = err_from_is_err_and c.from_residual.result c.from_residual.ensures.1 in
    rw (p.1, p.2) (reader-no (search rules) (search rules) c.in_err-reader.ensures)
