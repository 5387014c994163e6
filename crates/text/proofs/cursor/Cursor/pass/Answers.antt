-- A scan over the bytes that pass.
use mathlib.Core.Path.{refl, sym, ◌∙◌}
use borrow.Author.Rules.{rules}
use Rattle.text.proofs.Scans.{scan-start, scan-on, scan-stop, scanned_all}
use Rattle.text.proofs.cursor.Cursor.pass.Goals as goal

pub loop-i-init : goal.loop-i-init
loop-i-init g c = λ p f. scan-start _ _ _ c.args.self.within

pub returns-then-not-test : goal.returns-then-not-test
returns-then-not-test g c = λ p f.
    let s = scan-stop _ _ _ _ c.loop-i-test.true (sym (f _ _ c.test.ensures) ∙ c.if-not-test.true)
    (c.loop-i.invariant p f) in
    record { rest = s.left; on = s.on; same = refl }

pub loop-i-preserved : goal.loop-i-preserved
loop-i-preserved g c = λ p f. scan-on _ _ _ _ c.loop-i-test.true (sym (f _ _ c.test.ensures) ∙ c.if-not-test.false)
    (c.loop-i.invariant p f)

pub returns : goal.returns
returns g c = λ p f.
    let s = scanned_all _ _ _ _ (search rules) (c.loop-i.invariant p f) in
    record { rest = s.left; on = s.on; same = refl }
