-- `certify_pass::pass::lowest` meets its contract.
use Rattle.std.proofs.Common.{rules, tests, ◌≡◌, true, false, get_or}
use Rattle.std.proofs.lemmas.Iterator.{first_from_Range}
use lib.Bits.{bit_and}
use lib.Dec.{eqb}
use Rattle.certify.proofs.Passing.{lowest-found}
use Rattle.certify.proofs.pass.lowest.Goals as goal

pub returns : goal.returns
returns c =
    let m = c.args.marks.now in
    let found = lowest-found m c.find.result
    (first_from_Range _ _ _ _ (λ w. eqb (bit_and (get_or m w 0) 1) 0 ≡ true) (λ w. eqb (bit_and (get_or m w 0) 1) 0
    ≡ false) c.find.ensures.ran
    (λ x q k. search (rules, tests))
    (λ x q k. search (rules, tests))) in
    record { bound = found.0; lower = found.1 }
