-- `certify_netlist::ones::write` meets its contract.
use Prim.Native.Nat.{ℕ, ◌<◌}
use mathlib.Core.Path.{sym}
use mathlib.Core.Bool.{true, false}
use lib.ListN.{length, get_or}
use Rattle.evaluate.specs.Lane.{lane}
use Rattle.certify.proofs.Counting.{writing-room, writing_more, lane-one, lane-none}
use native.Mathlib.Omega.{arith}
use Rattle.certify.proofs.ones.write.Goals as goal
use Rattle.certify.proofs.ones.write.Goals.{then-word-place-eq1, else-word-place-eq1}

pub offset_bounds-out-at : goal.offset_bounds-out-at
offset_bounds-out-at c =
    let s = c.args in
    let f = λ (k : ℕ). lane s.place (get_or s.words.now k 0) in
    let b = lane-one s.place (get_or s.words.now c.loop-i.i 0) c.if-word-place-eq1.true in
    let h : c.loop-i.at < length s.out.now = writing-room f (length s.words.now) c.loop-i.invariant b (omega arith)
    c.requires.1 in
    omega arith

pub bounds-out-at : goal.bounds-out-at
bounds-out-at c =
    let s = c.args in
    let f = λ (k : ℕ). lane s.place (get_or s.words.now k 0) in
    let b = lane-one s.place (get_or s.words.now c.loop-i.i 0) c.if-word-place-eq1.true in
    let h : c.loop-i.at < length s.out.now = writing-room f (length s.words.now) c.loop-i.invariant b (omega arith)
    c.requires.1 in
    omega arith

pub overflow_add-at : goal.overflow_add-at
overflow_add-at c =
    let s = c.args in
    let f = λ (k : ℕ). lane s.place (get_or s.words.now k 0) in
    let b = lane-one s.place (get_or s.words.now c.loop-i.i 0) c.if-word-place-eq1.true in
    let h : c.loop-i.at < length s.out.now = writing-room f (length s.words.now) c.loop-i.invariant b (omega arith)
    c.requires.1 in
    omega arith

pub loop-i-preserved : goal.loop-i-preserved
loop-i-preserved c =
    let s = c.args in
    let n = get_or s.words.now c.loop-i.i 0 in
    elim c.if-word-place-eq1.branch [
      | then-word-place-eq1 w ↦ writing_more true c.loop-i.invariant (sym (lane-one s.place n w.if-word-place-eq1.true))
          w.out-is w.at-is
      | else-word-place-eq1 w ↦ writing_more false c.loop-i.invariant
          (sym (lane-none s.place n w.if-word-place-eq1.false)) w.out-is (omega (arith, w.at-is))
    ]
