-- `certify_records::combine` meets its contract.
use mathlib.Core.Path.{ap, ◌∙◌}
use Rattle.std.specs.Prelude.{Some}
use Rattle.certify_records.specs.declared.Record.{Record}
use Rattle.certify_records.specs.Made.{combined, meet_of, reduced_if}
use Rattle.certify_records.proofs.combine.Goals as goal

pub returns-in_err-r-clause-is : goal.returns-in_err-r-clause-is
unfolding combined
returns-in_err-r-clause-is c =
    c.from_residual.ensures ∙ ap reduced_if c.in_err-r.ensures.is
    ∙ ap (λ (p : Record × Record). reduced_if (meet_of c.args.kind p.0 p.1)) c.aligned.ensures.is

pub returns-clause-is : goal.returns-clause-is
unfolding combined
returns-clause-is c =
    ap Some c.reduced.ensures.is ∙ ap reduced_if c.in_ok-r.ensures.is
    ∙ ap (λ (p : Record × Record). reduced_if (meet_of c.args.kind p.0 p.1)) c.aligned.ensures.is
