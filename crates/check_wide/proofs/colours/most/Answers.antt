-- `most`: the highest of the colours.
use Prim.Native.Nat.{◌/◌}
use mathlib.Core.Path.{◌≡◌, refl}
use native.Mathlib.Omega.{arith}
use Rattle.std.proofs.lemmas.Grind.{common_steps}
use borrow.Author.Rules.{rules}
use Rattle.check_wide.proofs.ColourGiving.{highest, highest-below, highest-upto}
use Rattle.std.proofs.lemmas.List.Recursion.{max_bounds, max_least}
use Rattle.check_wide.proofs.colours.most.Goals as goal

pub returns : goal.returns
returns c =
    let ps = c.args.paints.now in
    let bounds = max_bounds highest (λ x. x / 4) refl (λ _ _. refl) ps in
    let least = max_least highest (λ x. x / 4) refl (λ _ _. refl) ps 0 c.unwrap_or.result (search rules) in
    let e : c.unwrap_or.result ≡ highest ps = grind (arith, common_steps, bounds, least) in
    rw e (highest-below ps 12 c.requires, highest-upto ps)
