-- By what comes off.
use Rattle.std.specs.Prelude.{None, Some}
use mathlib.Core.Path.{sym, ap, ◌∙◌}
use mathlib.Core.List.{[], ◌∷◌}
use Rattle.std.proofs.lemmas.Slice.Eq.{strip_suffix_is}
use Rattle.std.proofs.lemmas.Bool.Decides.{Decides-eqb}
use Rattle.netlist.specs.Text.{lf, cr}
use Rattle.text.proofs.LineEnds.{end_none, end_either}
use Rattle.text.proofs.ends.without_end.Goals as goal

pub returns-in-None : goal.returns-in-None
returns-in-None c = sym (end_none _ (strip_suffix_is Decides-eqb _ (lf ∷ []) None c.in-None.ensures.cases))

pub returns-in-Some : goal.returns-in-Some
returns-in-Some c =
    let a = strip_suffix_is Decides-eqb _ (lf ∷ []) (Some c.in-Some.line) c.in-Some.ensures.cases in
    let r = c.strip_suffix-in-Some.result in
    let b = strip_suffix_is Decides-eqb c.in-Some.line.now (cr ∷ []) r c.strip_suffix-in-Some.ensures.cases in
    ap (λ x. x.now) c.unwrap_or.ensures ∙ end_either _ c.in-Some.line r a b
