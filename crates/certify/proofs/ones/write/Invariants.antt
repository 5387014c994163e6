-- `certify_netlist::ones::write` meets its contract.
use lib.ListN.{get_or}
use Rattle.evaluate.specs.Lane.{lane}
use Rattle.certify.proofs.Counting.{Writing}
use Rattle.certify.proofs.ones.write.Given as goal

abbrev pub invariant-loop-i : goal.invariant-loop-i
invariant-loop-i l = Writing (λ k. lane l.place (get_or l.words k 0)) l.initial.out l.out l.at l.i
