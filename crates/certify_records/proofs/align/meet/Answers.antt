-- `certify_records::align::meet` meets its contract.
use Rattle.netlist.specs.Table.{made_of}
use Rattle.evaluate.specs.Lane.{lane}
use Rattle.evaluate.proofs.Words.{word-known}
use Rattle.certify_records.specs.Made.{record_of}
use Rattle.certify_records.proofs.Records.{meet-law}
use Rattle.certify_records.proofs.align.meet.Goals as goal

pub returns-clause-says : goal.returns-clause-says
returns-clause-says c =
    meet-law c.args.kind c.args.left c.args.right c.made.result c.made.ensures
    c.in_ok-first.ensures.says.agrees c.in_ok-second.ensures.says.agrees c.in_ok-third.ensures.says.agrees
    c.in_ok-fourth.ensures.says.agrees

pub returns-clause-is : goal.returns-clause-is
returns-clause-is c =
    let x = c.args.left in
    let y = c.args.right in
    let e = word-known c.made.result (λ l. made_of c.args.kind (lane l x.table) (lane l y.table)) c.made.type_inv
    c.made.ensures in
    λ i. record_of (e i) (c.in_ok-first.ensures.is i) (c.in_ok-second.ensures.is i) (c.in_ok-third.ensures.is i)
    (c.in_ok-fourth.ensures.is i)
