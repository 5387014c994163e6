-- `evaluate::lay::bits` meets its contract.
use mathlib.Core.Path.{refl, sym, ◌∙◌}
use native.Mathlib.Omega.{arith}
use Rattle.std.proofs.lemmas.List.{ext_get_or}
use Rattle.netlist.specs.Services.{is_one}
use Rattle.evaluate.proofs.Fronts.{bits-long, bits_at}
use Rattle.evaluate.proofs.lay.bits.Goals as goal

pub returns : goal.returns
returns c =
    let src = c.args.src.now in
    ext_get_or 0 _ _ (c.each.auto.dst ∙ c.requires ∙ sym (bits-long is_one src))
    (λ i l. c.each.ensures 0 0 i (omega (arith, l, c.each.auto.dst, c.requires)) ∙ bits_at is_one src i refl)
