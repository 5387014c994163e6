-- `assemble` keeps its invariant, and at its end all statements were looked at.
use Rattle.std.proofs.Common.{◌≡◌, ◌<◌, ◌≤◌, List, length, get_or, subst, sym}
use Rattle.std.proofs.lemmas.List.{take_all}
use Rattle.std.proofs.lemmas.List.Elements.{All-more, All-same}
use Rattle.blif.specs.declared.statements.Statement.{Statement}
use Rattle.blif.specs.Meaning.{HasStatement}
use Rattle.blif.proofs.Wiring.{all_grown}
use Rattle.blif.proofs.assemble.assemble.Goals as goal

pub loop-statement-preserved : goal.loop-statement-preserved
loop-statement-preserved c =
    let new = c.add_statement.new.self.cells.items in
    let at = c.loop-statement.statement-index in
    let item = c.statement-item.result in
    let same = c.deref-statement-items.ensures.value in
    let below = λ (ss : List Statement). at < length ss in
    let there = λ (ss : List Statement). item ≡ get_or ss at item in
    All-more (HasStatement new) c.args.model.now.statements.items at item (subst below same c.loop-statement-test.true)
    (all_grown c.loop-statement.cells.cells.items new _ c.in_ok-add_statement.ensures.adds c.loop-statement.invariant)
    (subst (HasStatement new) (subst there same c.statement-item.is) c.in_ok-add_statement.ensures.had)

pub returns : goal.returns
returns c =
    let at = c.loop-statement.statement-index in
    let below = λ (ss : List Statement). length ss ≤ at in
    let all = subst below c.deref-statement-items.ensures.value c.loop-statement-test.false in
    All-same (HasStatement c.loop-statement.cells.cells.items) _ _ (sym (take_all at c.args.model.now.statements.items all))
    c.loop-statement.invariant
