-- `place_twins`: the twins of the inputs, and then those of the gates' results.
use lib.ListN.{length}
use Rattle.mask_rule.proofs.Starts.{started-most}
use Rattle.mask_rule.proofs.Finishes.{finished}
use native.Mathlib.Omega.{arith}
use Rattle.gates.specs.Gates.{tables_of}
use Rattle.mask_rule.proofs.place.place_twins.Goals as goal

pub returns : goal.returns
returns c =
    let a = c.args in
    let s = c.start-first in
    let g = c.place_results in
    record {
      state = λ N h. finished (tables_of a.gates) a.gates.count (length a.twin_wires.now) a.codes.now N h
          g.new.twin_wires g.new.twin_codes s.ensures g.ensures.state;
      grown = omega (arith, started-most s.ensures, g.ensures.grown);
    }

pub place_results-requires-clause-count_bound : goal.place_results-requires-clause-count_bound
place_results-requires-clause-count_bound c = let p = c.requires
    in omega (arith, p.small, p.ins, started-most c.start-first.ensures)
