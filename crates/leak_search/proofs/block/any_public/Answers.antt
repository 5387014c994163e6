-- `block::any_public`: some code is public.
use Rattle.std.proofs.Common.{rules, arith, ◌≡◌, ◌∙◌, ap, ℕ, ◌%◌, ◌<◌, Bool, true, false, List, length, ◌↔◌, IsTrue}
use Rattle.std.proofs.Common.{get_or}
use Rattle.std.specs.List.{SomeIndex}
use Rattle.std.proofs.lemmas.Bool.{both_ways}
use borrow.Author.Tests.{eq-eqb, ne_eqb}
use Rattle.masking.specs.Leak.{Secret}
use Rattle.masking.specs.Mask.{is_public}
use Rattle.leak_search.specs.Paint.{codes_of}
use Rattle.leak_search.proofs.Paints.{length-codes_of, codes_of-at}
use Rattle.leak_search.proofs.block.any_public.Goals as goal

public-law : (ps : List ℕ) (r : Bool) → IsTrue r ↔ SomeIndex ps (λ i. get_or ps i 0 % 4 ≡ 0)
    → (r ≡ true → Secret (codes_of ps) → ⊥) × (r ≡ false → Secret (codes_of ps))
public-law ps r some = (
  λ e secret.
      let p = some.0 e in
      both_ways (is_public (get_or (codes_of ps) p.0 0)) (secret p.0 (rw length-codes_of p.1))
      (ap is_public (codes_of-at ps p.0 p.1) ∙ eq-eqb _ 0 p.2),
  λ e i l.
      let k : i < length ps = omega (arith, length-codes_of ps) in
      ap is_public (codes_of-at ps i k) ∙ ne_eqb _ 0 (λ q. both_ways r e (some.1 (i, k, q))),
)

pub returns : goal.returns
returns c =
    let ps = c.args.paints.now in
    let some : IsTrue c.any.result ↔ SomeIndex ps (λ i. get_or ps i 0 % 4 ≡ 0) = search rules in
    public-law ps c.any.result some
