-- The entry found, if it is in the state.
use Rattle.std.proofs.Common.{sym, ◌∙◌}
use Rattle.from_verilog.proofs.Moves.{become-none, become-other, become-new, some-state}
use Rattle.from_verilog.proofs.states.advance.Goals as goal

pub returns-in-Some-clause-said : goal.returns-in-Some-clause-said
returns-in-Some-clause-said c = (become-new _ _ _ _ _ _ 0 _ c.in-Some.ensures.entry
    (c.if-states-i.true ∙ c.number.ensures)).0

pub returns-in-Some-clause-moved : goal.returns-in-Some-clause-moved
returns-in-Some-clause-moved c =
    rw c.number-in-Some.ensures (become-new _ _ _ _ _ _ _ _ c.in-Some.ensures.entry
    (c.if-states-i.true ∙ c.number.ensures)).1

pub returns-in_default-clause-said : goal.returns-in_default-clause-said
returns-in_default-clause-said c =
    (become-other _ _ _ _ _ _ 0 _ c.in-Some.ensures.entry (λ e. c.if-states-i.false (e ∙ sym c.number.ensures))).0

pub returns-in_default-clause-moved : goal.returns-in_default-clause-moved
returns-in_default-clause-moved c =
    (become-other _ _ _ _ _ _ _ _ c.in-Some.ensures.entry (λ e. c.if-states-i.false (e ∙ sym c.number.ensures))).1

pub returns-in_default-2-clause-said : goal.returns-in_default-2-clause-said
returns-in_default-2-clause-said c = (become-none _ _ _ _ _ _ 0 (some-state c.args.old) c.in_default.ensures.entry).0

pub returns-in_default-2-clause-moved : goal.returns-in_default-2-clause-moved
returns-in_default-2-clause-moved c = (become-none _ _ _ _ _ _ _ (some-state c.args.old) c.in_default.ensures.entry).1
