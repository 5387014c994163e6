-- `certify_netlist::witness` meets its contract.
use Rattle.std.specs.Prelude.{Some, None}
use mathlib.Core.Path.{refl}
use native.Mathlib.Omega.{arith}
use Rattle.certify.proofs.judge.witness.Goals as goal

pub returns-in-None : goal.returns-in-None
returns-in-None c = λ n o N H M lower. record {
  found = None;
  words = c.search.new.words;
  searches = c.in-None.ensures.is n o N H M;
  says = c.tell_unknown.ensures N c.args.codes.now c.args.ones.now c.search.new.words
      (omega (arith, H.wires, c.requires.3)) lower;
}

pub returns-in-Some : goal.returns-in-Some
returns-in-Some c = λ n o N H M lower.
    let a = c.args in
    let l = c.search.auto.words in
    let W = c.in-Some.ensures.witness n o N H M in
    record {
      found = Some c.in-Some.found;
      words = c.search.new.words;
      searches = c.in-Some.ensures.is n o N H M;
      says = c.tell_leak.ensures N a.codes.now c.search.new.words refl (omega (arith, l, c.requires.1))
          (omega (arith, l, W.wire, H.wires)) W a.sure;
    }
