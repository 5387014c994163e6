-- `verdicts`: the wires that leak, then the causes.
use Rattle.std.proofs.Common.{sym, ◌∙◌, length, subst, ℕ}
use Rattle.causes.specs.Causes.{level}
use Rattle.causes.specs.Marked.{Tested, Told}
use Rattle.gates.specs.Gates.{gates_in}
use Rattle.causes.proofs.Judging.{verdicts-law}
use Rattle.causes.proofs.verdicts.Goals as goal

pub returns : goal.returns
returns c = λ n o N h.
    let u = level N c.args.codes.list.now in
    let k = c.levels.auto.marks ∙ c.requires.lengths.3 in
    let tested = c.levels.ensures n o N h in
    let told = c.causes.ensures u (subst (λ (W : ℕ). Tested u W c.levels.new.marks) (sym k) tested) in
    verdicts-law N c.args.codes.list.now (gates_in c.args.gates) (length c.args.words.now) c.causes.new.marks h.wires
    h.gates (c.causes.auto.marks ∙ k)
    (subst (λ (W : ℕ). Told u (gates_in c.args.gates) W c.causes.new.marks) k told)
