-- What is read stands after what was read before.
use Rattle.std.proofs.Common.{◌≡◌, ℕ, ◌+◌, ◌≤◌, List, ◌++◌, Option, None, Some, length, take, sym, ap, subst, ◌∙◌}
use Rattle.std.proofs.Common.{append_assoc, arith, length-take-le}
use Rattle.std.proofs.lemmas.List.{take-append-le}
use Rattle.std.proofs.Math.Seq.{take-append-add}
use Rattle.std.specs.Io.KnownBytes.{Consumes}
use Rattle.program.proofs.files.fill.Goals as goal

both : (a b c : Option (List ℕ)) (xs ys : List ℕ) → Consumes a b xs → Consumes b c ys → Consumes a c (xs ++ ys)
both None b c xs ys p q = tt
both (Some s) None c xs ys p q = absurd p
both (Some s) (Some t) None xs ys p q = absurd q
both (Some s) (Some t) (Some u) xs ys p q = p ∙ ap (λ (l : List ℕ). xs ++ l) q ∙ sym (append_assoc xs ys u)

-- the first n bytes of ys, after the first `at` of xs
following : (xs ys rest : List ℕ) (at n : ℕ) → at ≤ length xs → n ≤ length ys → take at xs ++ take n ys
    ≡ take (at + n) (take at xs ++ (ys ++ rest))
following xs ys rest at n h k =
    let front = take at xs in
    let long : length front ≡ at = length-take-le at xs h in
    sym
    (ap (λ (i : ℕ). take (i + n) (front ++ (ys ++ rest))) (sym long) ∙ take-append-add front (ys ++ rest) n
    ∙ ap (λ (l : List ℕ). front ++ l) (take-append-le n ys rest k))

pub loop-done-preserved : goal.loop-done-preserved
loop-done-preserved g c =
    let from = c.loop-done.invariant in
    let read = c.in-Ok.ensures in (
      omega (arith, read.bound.0),
      subst (Consumes _ _) (following _ _ _ _ _ from.0 read.bound.0) (both _ _ _ _ _ from.1 read.bytes.0),
    )
