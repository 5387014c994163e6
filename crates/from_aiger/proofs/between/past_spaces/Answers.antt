-- A scan over spaces.
use mathlib.Core.Path.{refl}
use borrow.Author.Rules.{rules}
use borrow.Author.Tests.{eq-eqb, ne_eqb}
use Rattle.text.proofs.Scans.{scan-start, scan-on, scan-stop, scanned_all}
use Rattle.from_aiger.proofs.between.past_spaces.Goals as goal

pub loop-i-init : goal.loop-i-init
loop-i-init c = scan-start _ _ _ c.args.at.within

pub returns-then-text-i-ne32 : goal.returns-then-text-i-ne32
returns-then-text-i-ne32 c =
    let s = scan-stop _ _ _ _ c.loop-i-test.true (ne_eqb _ _ c.if-text-i-ne32.true) c.loop-i.invariant in
    record { rest = s.left; on = s.on; same = refl }

pub loop-i-preserved : goal.loop-i-preserved
loop-i-preserved c = scan-on _ _ _ _ c.loop-i-test.true (eq-eqb _ _ c.if-text-i-ne32.false) c.loop-i.invariant

pub returns : goal.returns
returns c =
    let s = scanned_all _ _ _ _ (search rules) c.loop-i.invariant in
    record { rest = s.left; on = s.on; same = refl }
