-- `certify_netlist::decide` meets its contract.
use mathlib.Core.Path.{refl, sym, ◌∙◌, subst}
use mathlib.Core.List.{[], ◌++◌}
use Prim.Native.Nat.{ℕ}
use Rattle.std.specs.Prelude.{Some, None}
use Rattle.certify.specs.Pass.{LowestUnmarked}
use Rattle.certify.specs.Step.{passed}
use lib.ListN.{drop, length-append}
use lib.Seq.{length-take-le}
use native.Mathlib.Omega.{arith}
use Rattle.certify.proofs.judge.decide.Goals as goal

pub returns : goal.returns
returns c = λ n o N H M.
    let a = c.args in
    let s = c.certified in
    let m = length-take-le a.wires a.marks.now c.requires.2 in
    let h = length-take-le a.wires a.words.now c.requires.3 in
    let w = length-take-le a.wires (s.new.hints ++ drop a.wires a.words.now)
    (rw (length-append s.new.hints (drop a.wires a.words.now)) (omega (arith, s.auto.hints, h))) in
    let J = c.witness.ensures n o N (rw w H) M (c.in-Some.ensures.lower n o N (rw m H) M) in
    record {
      finding = record {
        left = Some c.in-Some.sure;
        passes = subst (λ (k : ℕ). LowestUnmarked (passed N.wires k a.codes.now N.gates).marks N.wires
            (Some c.in-Some.sure)) (h ∙ sym H.wires)
            (c.in-Some.ensures.is n o N (rw m H));
        found = J.found;
        words = J.words;
        searches = J.searches;
      };
      says = J.says;
    }

pub returns-in_default : goal.returns-in_default
returns-in_default c = λ n o N H M.
    let a = c.args in
    let m = length-take-le a.wires a.marks.now c.requires.2 in
    let h = length-take-le a.wires a.words.now c.requires.3 in
    record {
      finding = record {
        left = None;
        passes = subst (λ (k : ℕ). LowestUnmarked (passed N.wires k a.codes.now N.gates).marks N.wires None)
            (h ∙ sym H.wires) (c.in_default.ensures.is n o N (rw m H));
        found = None;
        words = [];
        searches = tt;
      };
      says = (λ v q. c.in_default.ensures.lower n o N (rw m H) M v (omega (arith, m, H.wires)), refl, refl);
    }
