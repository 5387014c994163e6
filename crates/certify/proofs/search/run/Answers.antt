-- `certify_search::search::run` meets its contract.
use mathlib.Core.Path.{sym, subst}
use Prim.Native.Nat.{ℕ}
use Rattle.gates.specs.Gates.{HoldsGates}
use Rattle.certify.proofs.Rounds.{ran}
use Rattle.certify.proofs.Drawing.{round-drawn}
use borrow.Author.Rules.{rules}
use native.Mathlib.Omega.{arith}
use Rattle.certify.proofs.search.run.Goals as goal

pub returns-clause-says : goal.returns-clause-says
returns-clause-says c = λ n o N H M. let l = c.inputs-noise.auto.words in
    let K = subst (λ (W : ℕ). HoldsGates c.args.gates W n o N) (sym l) H in (
      ran K M c.inputs-noise.new.words c.wires.new.words (omega (arith, l, c.requires.1)) c.wires.auto.words
          c.inputs-noise.ensures.says c.wires.ensures,
      round-drawn K c.args.codes.now c.args.seed c.inputs-noise.new.words c.wires.new.words c.wires.auto.words
          (λ i. let f = c.type_inv.words i in search rules) c.inputs-noise.ensures.words c.wires.ensures,
    )
