-- `fidrovelj_check_wide`: what the check promises, its number, the numbers of a leak, its ones and the number of a bad
-- pair.
use borrow.Author.Rules.{rules}
use Rattle.capi.proofs.wide_calls.fidrovelj_check_wide.Goals as goal

pub returns : goal.returns
returns c =
    let check = c.check_wide in
    let told = c.tell.ensures in
    record {
      answer = check.result;
      promise = rw c.sizes.ensures at check.ensures;
      shows = record {
        told = search rules;
        leak_list = told.leak_list;
        ones_list = told.ones_list;
        bad_list
            = told.bad_list;
      };
    }
