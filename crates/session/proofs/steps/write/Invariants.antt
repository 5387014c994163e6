-- `write`: the first k records stand in the list.
use Rattle.std.proofs.Common.{◌≡◌, map, take}
use Rattle.std.proofs.lemmas.List.Edits.{sets}
use Rattle.gates.specs.Records.{record_of}
use Rattle.session.specs.Plan.{steps_in}
use Rattle.session.proofs.steps.write.Given as goal

abbrev pub invariant-loop-k : goal.invariant-loop-k
invariant-loop-k l = l.list ≡ sets l.initial.list l.at (take l.k (map record_of (steps_in l.mask_pair l.steps)))
