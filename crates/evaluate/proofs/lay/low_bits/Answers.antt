-- `evaluate::lay::low_bits` meets its contract.
use mathlib.Core.Path.{refl, sym, ◌∙◌}
use native.Mathlib.Omega.{arith}
use Rattle.std.proofs.lemmas.List.{ext_get_or}
use Rattle.evaluate.specs.Lane.{lane}
use Rattle.evaluate.proofs.Fronts.{bits-long, bits_at}
use Rattle.evaluate.proofs.lay.low_bits.Goals as goal

pub returns : goal.returns
returns c =
    let src = c.args.src.now in
    ext_get_or 0 _ _ (c.each.auto.dst ∙ c.requires ∙ sym (bits-long (lane 0) src))
    (λ i l. c.each.ensures 0 0 i (omega (arith, l, c.each.auto.dst, c.requires)) ∙ bits_at (lane 0) src i refl)
