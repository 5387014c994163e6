-- The faults tell of the bytes tested.
use mathlib.Core.Path.{refl, ap, ◌∙◌}
use borrow.Author.Rules.{rules}
use Rattle.text.specs.Answers.{fault_of}
use Rattle.text.proofs.AllowedBytes.{testing-start, testing-end, plain-on}
use Rattle.text.proofs.allowed.all_plain.Goals as goal

pub loop-b-init : goal.loop-b-init
loop-b-init c = testing-start _ _

pub loop-b-preserved : goal.loop-b-preserved
loop-b-preserved c = plain-on _ _ _ _ (search rules) (c.failed-faults.ensures ∙ ap fault_of c.byte_allowed.ensures)
    c.loop-b.invariant

pub returns : goal.returns
returns c = testing-end _ _ _ _ refl (search rules) c.loop-b.invariant
