-- The faults tell of the bytes tested, each with the one after it.
use Prim.Native.Nat.{◌+◌, ◌-◌}
use mathlib.Core.Path.{◌≡◌, sym, ap, ap₂, ◌∙◌, subst}
use Rattle.std.proofs.Common.{inl, inr}
use native.Mathlib.Omega.{arith}
use lib.ListN.{length, take, drop, get_or, length-drop, length-append}
use lib.Seq.{length-take-le}
use Rattle.netlist.specs.Read.{bytes_allowed}
use Rattle.text.specs.Answers.{fault_of, allowed_before}
use Rattle.text.proofs.AllowedBytes.{Testing, before_on, before-end, next_byte}
use Rattle.text.proofs.allowed.all_before.Goals as goal

pub loop-b-preserved : goal.loop-b-preserved
loop-b-preserved c =
    let s = c.in-Some.ensures.steps in
    let i = c.loop-b.invariant in
    let t = c.args.text.now in
    let k = length c.loop-b.yielded in
    let a = next_byte t k _ _ (sym i.0 ∙ s.0) in
    let b = next_byte t (k + 1) _ _ (sym i.1 ∙ s.1) in
    rw (length-append c.loop-b.yielded) (
      a.1,
      b.1,
      omega (arith, b.2),
      before_on t _ _ k a.2 (c.fault_before-faults.ensures
          ∙ ap₂ (λ x y. fault_of (allowed_before x y)) a.0 b.0) i.3,
    )

pub returns : goal.returns
returns c =
    let t = c.args.text.now in
    let i = c.loop-b.invariant in
    let k = length c.loop-b.yielded in
    let l = ap length i.0 ∙ length-drop k t in
    let m = ap length i.1 ∙ length-drop (k + 1) t in
    let z : k ≡ length t - 1 = elim c.in-None.ensures.steps [
      | inl x ↦ omega (arith, l, x.1.0, i.2)
      | inr x ↦ omega
          (arith, m, x.1.0, i.2)
    ] in
    let w : length (take (length t - 1) (drop 1 t)) ≡ length t - 1 = length-take-le (length t - 1) (drop 1 t)
    (rw length-drop (omega arith)) in
    before-end t _ _ (length t - 1) (omega (arith, i.2)) (c.fault_before.ensures
    ∙ ap (λ n. fault_of (allowed_before (get_or t n 0) 0)) w)
    (subst (Testing bytes_allowed t c.loop-b.faults) z i.3)
