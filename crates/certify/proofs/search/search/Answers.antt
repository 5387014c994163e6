-- `certify_search::search::search` meets its contract.
use mathlib.Core.Path.{sym, subst}
use Prim.Native.Nat.{ℕ}
use native.Mathlib.Omega.{arith}
use Rattle.std.specs.Prelude.{Some, None}
use Rattle.gates.specs.Gates.{HoldsGates}
use Rattle.certify.proofs.Drawing.{search-hit, search-miss, search-over}
use Rattle.certify.proofs.search.search.Goals as goal

pub returns-in-Some-clause-witness : goal.returns-in-Some-clause-witness
returns-in-Some-clause-witness c = λ n o N H M.
    let l = c.loop.auto.words in
    let K = subst (λ (W : ℕ). HoldsGates c.args.gates W n o N) (sym l) H in
    c.in-Some.ensures.witness N c.args.codes.now (c.run-seed.ensures.says n o N K M).0

pub returns-in-Some-clause-is : goal.returns-in-Some-clause-is
returns-in-Some-clause-is c = λ n o N H M.
    let l = c.loop in
    let K = subst (λ (W : ℕ). HoldsGates c.args.gates W n o N) (sym l.auto.words) H in
    let r = c.run-seed.ensures.says n o N K M in
    l.invariant n o N H M (Some c.in-Some.leak) c.run-seed.new.words
    (search-hit l.counter l.seed c.run-seed.new.words c.in-Some.leak (omega arith) r.1 c.in-Some.ensures.is)

pub loop-preserved : goal.loop-preserved
loop-preserved c = λ n o N H M found ws S.
    let l = c.loop in
    let K = subst (λ (W : ℕ). HoldsGates c.args.gates W n o N) (sym l.auto.words) H in
    let r = c.run-seed.ensures.says n o N K M in
    l.invariant n o N H M found ws
    (search-miss l.counter l.seed c.run-seed.new.words c.run-seed.result found ws (omega arith) r.1
    c.in_default.ensures.is c.run-seed.ensures.noise S)

pub loop-init : goal.loop-init
loop-init c = λ n o N H M found ws S. S

pub returns-clause-is : goal.returns-clause-is
returns-clause-is c = λ n o N H M.
    let l = c.loop in l.invariant n o N H M None l.words (search-over l.counter l.seed l.words (omega arith))
