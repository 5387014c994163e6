-- `seed`: member by member.
use Rattle.check_wide.proofs.ColourGiving.{Seeding}
use Rattle.check_wide.proofs.colours.seed.Given as goal

abbrev pub invariant-loop-a : goal.invariant-loop-a
invariant-loop-a l = Seeding l.item-items l.initial.paints l.paints l.a
