-- Down the chain of the name.
use Rattle.std.proofs.Common.{arith, ℕ, ◌-◌, refl, sym, ap, ◌∙◌, length}
use Rattle.from_verilog.specs.Names.{chain_at, newest}
use Rattle.from_verilog.proofs.Chains.{find-start, find-on, find-here, find_none, newest-within}
use Rattle.from_verilog.proofs.names.Names.find.Goals as goal

pub loop-p-init : goal.loop-p-init
loop-p-init c =
    let x = c.args.self in
    find-start x.text.now x.words.now c.args.name.now (length x.heads.now) (length x.words.now) _
    (x.chained.headed _ c.chain_of.ensures.1 ∙ ap (λ (k : ℕ). newest x.text.now x.words.now (length x.heads.now) k
    (length x.words.now)) c.chain_of.ensures.0)

pub returns-then-is_name-clause-entry : goal.returns-then-is_name-clause-entry
returns-then-is_name-clause-entry c = find-here _ _ _ _ _ _ _ c.loop-p-test.true refl
    (sym c.is_name.ensures ∙ c.if-is_name.true) c.loop-p.invariant

pub loop-p-smaller : goal.loop-p-smaller
loop-p-smaller c =
    let x = c.args.self in
    let i = c.loop-p.p - 1 in
    omega (
      arith,
      x.chained.older i (omega (arith, c.loop-p.invariant.within)),
      newest-within x.text.now x.words.now (length x.heads.now) (chain_at x.text.now x.words.now (length x.heads.now) i)
          i,
    )

pub loop-p-preserved : goal.loop-p-preserved
loop-p-preserved c =
    find-on _ _ _ _ _ _ _ _ c.loop-p-test.true refl (sym c.is_name.ensures ∙ c.if-is_name.false)
    (c.args.self.chained.older _ (omega (arith, c.loop-p.invariant.within))) c.loop-p.invariant

pub returns-clause-entry : goal.returns-clause-entry
returns-clause-entry c = find_none _ _ _ _ _ _ (λ h. omega arith) c.loop-p.invariant
