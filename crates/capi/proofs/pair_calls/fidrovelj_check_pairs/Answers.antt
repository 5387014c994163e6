-- `fidrovelj_check_pairs`: what Check with pairs promises, its number, and the numbers of a leak and of a bad pair.
use borrow.Author.Rules.{rules}
use Rattle.capi.proofs.pair_calls.fidrovelj_check_pairs.Goals as goal

pub returns : goal.returns
returns c =
    let check = c.check_pairs in
    let told = c.tell.ensures in
    record {
      answer = check.result;
      promise = rw c.sizes.ensures at check.ensures;
      shows = record { told = search rules; leak_list = told.leak_list; bad_list = told.bad_list };
    }
