-- `tally::tell`: the totals, and the witness where there is one.
use Rattle.std.proofs.Common.{arith, sym, ◌∙◌}
use Rattle.explain.specs.Table.{table_count}
use Rattle.explain.proofs.Lightest.{lightest-below}
use Rattle.explain.proofs.Calls.{none-short, some-short, none-done, some-done}
use Rattle.explain.proofs.tally.tell.Goals as goal

pub count-requires : goal.count-requires
count-requires c =
    let a = c.args in
    let b = lightest-below (table_count a.base.now) (table_count a.own.now) a.bits c.power-settings.result c.in-Some.s
    (sym c.lightest.ensures ∙ c.in-Some.is) in
    omega (arith, b, c.power-settings.ensures, c.requires.1)

pub count-requires-in-Some : goal.count-requires-in-Some
count-requires-in-Some c =
    let a = c.args in
    let b = lightest-below (table_count a.base.now) (table_count a.own.now) a.bits c.power-settings.result c.in-Some.s
    (sym c.lightest.ensures ∙ c.in-Some.is) in
    omega (arith, b, c.power-settings.ensures, c.requires.2)

pub returns-then-out-lt5 : goal.returns-then-out-lt5
returns-then-out-lt5 c =
    let a = c.args in
    rw (← c.power-settings.ensures)
    (none-short (table_count a.base.now) (table_count a.own.now) a.bits c.power-settings.result
    c.total_each-totals.result c.total_each-totals.ensures a.out.now (sym c.lightest.ensures ∙ c.in-None.is)
    c.if-out-lt5.true)

pub returns-then-out-lt8 : goal.returns-then-out-lt8
returns-then-out-lt8 c =
    let a = c.args in
    rw (← c.power-settings.ensures)
    (some-short (table_count a.base.now) (table_count a.own.now) a.bits c.power-settings.result
    c.total_each-totals.result c.total_each-totals.ensures a.out.now c.in-Some.s
    (sym c.lightest.ensures ∙ c.in-Some.is) c.if-out-lt8.true)

pub returns-else-out-lt5 : goal.returns-else-out-lt5
returns-else-out-lt5 c =
    let a = c.args in
    rw (← c.power-settings.ensures)
    (none-done (table_count a.base.now) (table_count a.own.now) a.bits c.power-settings.result
    c.total_each-totals.result c.total_each-totals.ensures a.out.now (sym c.lightest.ensures ∙ c.in-None.is)
    c.show.new.out c.if-out-lt5.false c.show.ensures)

pub returns-else-out-lt8 : goal.returns-else-out-lt8
returns-else-out-lt8 c =
    let a = c.args in
    rw (← c.power-settings.ensures)
    (some-done (table_count a.base.now) (table_count a.own.now) a.bits c.power-settings.result
    c.total_each-totals.result c.total_each-totals.ensures a.out.now c.in-Some.s
    (sym c.lightest.ensures ∙ c.in-Some.is) c.count.result c.count-in-Some.result c.count.ensures
    c.count-in-Some.ensures c.show_witness.new.out c.if-out-lt8.false c.show_witness.ensures)
