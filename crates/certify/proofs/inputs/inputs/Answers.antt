-- `certify_pass::inputs::inputs` meets its contract.
use mathlib.Core.Path.{◌≡◌, refl, sym, ap, ◌∙◌}
use Prim.Native.Nat.{ℕ, ◌+◌}
use lib.ListN.{length, get_or}
use native.Mathlib.Numerals.{add-one}
use native.Mathlib.Omega.{arith}
use Rattle.certify.specs.Step.{State, state, given, input_of, inputs_to, mask_record}
use Rattle.certify.proofs.inputs.inputs.Goals as goal

pub loop-i-preserved : goal.loop-i-preserved
loop-i-preserved c =
    let l = c.loop-i in
    let codes = c.args.codes.now in (
      λ N M H. c.input.ensures.says.holds N codes M (omega arith) refl (l.invariant.0 N M H),
      λ h. c.input.ensures.is h ∙ ap (λ (s : State). input_of s l.i (get_or codes l.i 0)) (l.invariant.1 h)
          ∙ sym (ap (λ (k : ℕ). inputs_to codes k (state c.args.records.now c.args.marks.now h)) (add-one l.i)),
    )

pub returns-clause-says : goal.returns-clause-says
returns-clause-says c = λ N M H.
    let codes = c.args.codes.now in
    c.give-2.ensures.says N codes ((c.mask_record-2.ensures.says N codes M).1 refl)
    (c.give.ensures.says N codes ((c.mask_record.ensures.says N codes M).0 refl) (c.loop-i.invariant.0 N M H))

pub returns-clause-is : goal.returns-clause-is
returns-clause-is c = λ h.
    let a = c.args in
    let l = c.loop-i in
    let codes = a.codes.now in
    let n = length codes in
    let s = state a.records.now a.marks.now h in
    let e : l.i ≡ n = omega arith in
    c.give-2.ensures.is h ∙ (λ i. given (c.give.ensures.is h i) (n + 1) (c.mask_record-2.ensures.is i))
    ∙ (λ i. given (given (l.invariant.1 h i) n (c.mask_record.ensures.is i)) (n + 1) (mask_record 2))
    ∙ ap (λ (k : ℕ). given (given (inputs_to codes k s) n (mask_record 1)) (n + 1) (mask_record 2)) e
