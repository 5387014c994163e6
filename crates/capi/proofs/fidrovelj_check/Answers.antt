-- `capi::fidrovelj_check`: what Check promises, its number, and a leak's numbers.
use borrow.Author.Rules.{rules}
use Rattle.capi.proofs.fidrovelj_check.Goals as goal

pub returns : goal.returns
returns c =
    let check = c.check in
    record {
      answer = check.result;
      promise = rw c.sizes.ensures at check.ensures;
      shows =
          record { told = search rules; leak = c.tell.ensures.leak };
    }
