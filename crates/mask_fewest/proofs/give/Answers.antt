-- `give`: Mask's own text and output codes, then the input codes and the tally.
use Prim.Native.Nat.{ℕ}
use mathlib.Core.Path.{refl, ap, ◌∙◌}
use mathlib.Core.List.{◌++◌, List}
use lib.ListN.{length, drop}
use Rattle.std.proofs.lemmas.Result.{err_from_is_err_and}
use Rattle.mask_fewest.proofs.Giving.{laid-front, two-set, give-refused, give-done}
use Rattle.mask_fewest.proofs.give.Goals as goal

pub returns-in_err-size : goal.returns-in_err-size
returns-in_err-size c =
    let a = c.args in
    let p = err_from_is_err_and c.from_residual.result c.from_residual.ensures.1 in
    λ N S f. rw (p.1, p.2)
    (give-refused N a.source.codes.now a.source.wanted.now a.found a.in_codes.now a.tally.now c.requires.inputs
    c.requires.tally
    (c.deliver.ensures N S f) c.in_err-size.was)

pub returns : goal.returns
returns c =
    let a = c.args in
    let n = length a.source.codes.now in
    let e = c.copy.ensures in
    λ N S f. give-done N a.source.codes.now a.source.wanted.now a.found a.in_codes.now a.tally.now c.requires.inputs
    c.requires.tally
    (c.deliver.ensures N S f) c.in_ok-size.was
    (ap (λ (x : List ℕ). x ++ drop n a.in_codes.now) e ∙ laid-front n a.source.codes.now a.in_codes.now refl
    c.requires.inputs)
    (two-set a.tally.now _ _ c.requires.tally)
