-- `levels::all_marks`: block by block.
use Rattle.std.proofs.Common.{rules, arith, refl, ap, ◌∙◌, ◌≡◌, inl, length, get_or, replicate}
use Rattle.causes.proofs.Marking.{marked-more, zeros-at}
use Rattle.causes.proofs.levels.all_marks.Goals as goal

pub loop-block-init : goal.loop-block-init
loop-block-init c =
    let z : c.fill.new.self ≡ replicate (length c.args.marks.now) 0 = search rules in
    let fields = c.new-b.ensures.fields in
    record {
      passed = omega arith;
      long-words = refl;
      long-base = c.requires.lengths.1;
      long-marks = c.fill.ensures.len ∙ c.requires.lengths.2;
      ready = λ e. (rw fields.1 (c.new-b.ensures.publics.1 e), λ n. absurd (n refl));
      each = λ w l. inl (
        ap (λ marks. get_or marks w 0) z ∙ zeros-at (length c.args.marks.now) w,
        λ s l. absurd (omega arith),
      );
    }

pub loop-block-preserved : goal.loop-block-preserved
loop-block-preserved c =
    let at = c.loop-block in
    let turn = c.block_marks in
    marked-more at.invariant c.loop-block-test.true turn.new.words turn.new.base turn.new.marks turn.auto.words
    turn.auto.base turn.auto.marks turn.ensures.0 turn.ensures.1

pub returns : goal.returns
returns c = λ w l.
    let fields = c.new-b.ensures.fields in
    let e : c.loop-block.block ≡ c.args.blocks = omega (arith, c.loop-block.invariant.passed, c.loop-block-test.false) in
    rw (← fields.0, ← fields.1, ← e) (c.loop-block.invariant.each w l)
