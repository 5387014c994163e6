-- `admit`: each length in turn.
use Rattle.std.proofs.Common.{rules, tests, sym, ◌∙◌}
use Rattle.std.proofs.lemmas.Iterator.{YieldsList-from_slice}
use Rattle.std.proofs.lemmas.Iterator.Search.{all_from_yields_List}
use lib.Dec.{leb}
use Rattle.netlist.proofs.Tests.{every-list_all}
use Rattle.netlist.proofs.Limits.admit.Goals as goal

pub returns : goal.returns
returns c =
    all_from_yields_List (leb c.args.self.table) _ _ _ c.all.ensures.ran (YieldsList-from_slice c.args.lengths.now (cc))
    (λ x b q k. search (rules, tests))
    ∙ sym (every-list_all (leb c.args.self.table) c.args.lengths.now)
