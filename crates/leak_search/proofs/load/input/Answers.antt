-- `load::input`: without a colour the mask alone, otherwise the bit of its colour and the mask.
use mathlib.Core.Path.{sym, ap, ap₂, ◌∙◌}
use mathlib.Core.Bool.{Bool}
use Prim.Native.Nat.{ℕ, ◌+◌, ◌*◌, ◌/◌}
use Rattle.netlist.specs.Eval.{differs}
use Rattle.masking.specs.Leak.{mask_of}
use Rattle.evaluate.specs.Lane.{lane}
use Rattle.evaluate.proofs.Lanes.{lane_xor}
use Rattle.leak_search.specs.Paint.{code_of, colour_of, shade}
use Rattle.leak_search.specs.Base.{kept}
use Rattle.leak_search.proofs.Paints.{shade-some, kept-none}
use Rattle.leak_search.proofs.load.input.Goals as goal

pub returns-then-colour-eq0 : goal.returns-then-colour-eq0
returns-then-colour-eq0 c =
    let a = c.args in
    λ j l. c.mask.ensures a.block j l
    ∙ sym (ap (λ (b : Bool). differs b (mask_of (lane 0 (a.block * 64 + j)) (lane 1 (a.block * 64 + j))
    (code_of a.paint)))
    (ap (λ (k : ℕ). kept a.secrets (code_of a.paint) (shade k ((a.block * 64 + j) / 4))) c.if-colour-eq0.true
    ∙ kept-none a.secrets (code_of a.paint)))

pub returns : goal.returns
returns c =
    let a = c.args in
    λ j l. lane_xor j c.chosen.result c.mask-2.result
    ∙ ap₂ differs
    (c.chosen.ensures j l ∙ ap (kept a.secrets (code_of a.paint))
    (sym (shade-some (colour_of a.paint) ((a.block * 64 + j) / 4) c.if-colour-eq0.false)))
    (c.mask-2.ensures a.block j l)
