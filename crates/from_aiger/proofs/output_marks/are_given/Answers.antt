-- A test of each variable's wire and mark.
use Rattle.std.proofs.Common.{rules, tests}
use Rattle.std.proofs.lemmas.Iterator.{YieldsList-from_slice, YieldsList-from_zip, cases_from_all}
use Rattle.from_aiger.proofs.MarkedLines.{Lets, Misses, given_from}
use Rattle.from_aiger.proofs.output_marks.are_given.Goals as goal

pub returns : goal.returns
returns c = λ most z given wires are P O.
    let a = c.args in
    given_from P O c.requires z c.all.result
    (cases_from_all c.all.new.self _ _ Lets Misses c.all.ensures.ran
    (YieldsList-from_zip (YieldsList-from_slice a.table.now cc) (YieldsList-from_slice a.marks.now cc))
    (λ x q k. search (rules, tests))
    (λ x q k. search (rules, tests)))
