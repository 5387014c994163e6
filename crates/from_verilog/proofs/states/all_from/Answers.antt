-- Each of the states in turn.
use Rattle.std.proofs.Common.{rules, tests, sym, ap, ◌∙◌}
use Rattle.std.proofs.lemmas.Iterator.{YieldsList-from_slice}
use Rattle.std.proofs.lemmas.Iterator.Search.{all_from_yields_List}
use lib.Dec.{leb}
use Rattle.netlist.specs.Lists.{every}
use Rattle.netlist.proofs.Tests.{every-list_all}
use Rattle.from_verilog.proofs.states.all_from.Goals as goal

pub returns : goal.returns
returns c =
    let all = c.args.states.now in
    all_from_yields_List (leb c.number-least.result) _ _ _ c.all.ensures.ran (YieldsList-from_slice all (cc))
    (λ x b q k. search (rules, tests))
    ∙ sym (every-list_all (leb c.number-least.result) all) ∙ ap (λ n. every (leb n) all) c.number-least.ensures
