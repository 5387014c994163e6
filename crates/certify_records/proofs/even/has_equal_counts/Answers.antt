-- `certify_records::even::has_equal_counts` meets its contract.
use mathlib.Core.Path.{sym, ◌∙◌}
use mathlib.Core.Bool.{◌&&◌}
use Rattle.netlist.proofs.Tests.{both_true}
use Rattle.certify_records.proofs.Evens.{even-law, free-from, counted}
use Rattle.certify_records.specs.Made.{settled, even_of}
use Rattle.certify_records.proofs.even.has_equal_counts.Goals as goal

pub returns-clause-says : goal.returns-clause-says
returns-clause-says c = λ e.
    let s = c.args in
    let t = c.counts-counts.result in
    let p = both_true _ _ e in
    let q = both_true _ _ p.0 in
    let u = both_true _ _ q.0 in
    even-law s.known t s.first s.second s.third s.fourth c.counts-counts.ensures
    (free-from 0 4 0x0f0f_0f0f_0f0f_0f0f t tt (sym c.is_settled.ensures ∙ u.0))
    (free-from 1 8 0x00ff_00ff_00ff_00ff t tt (sym c.is_settled-2.ensures ∙ u.1))
    (free-from 2 16 0x0000_ffff_0000_ffff t tt (sym c.is_settled-3.ensures ∙ q.1))
    (free-from 3 32 0x0000_0000_ffff_ffff t tt (sym c.is_settled-4.ensures ∙ p.1))

pub returns-clause-is : goal.returns-clause-is
unfolding even_of
returns-clause-is c =
    let e = counted c.counts-counts.result c.args.known.table c.counts-counts.type_inv c.counts-counts.ensures in
    (λ i. ((c.is_settled.ensures i && c.is_settled-2.ensures i) && c.is_settled-3.ensures i) && c.is_settled-4.ensures
    i)
    ∙ (λ i.
    ((settled c.args.first (e i) 4 0x0f0f_0f0f_0f0f_0f0f && settled c.args.second (e i) 8 0x00ff_00ff_00ff_00ff)
    && settled c.args.third (e i) 16 0x0000_ffff_0000_ffff) && settled c.args.fourth (e i) 32 0x0000_0000_ffff_ffff)
