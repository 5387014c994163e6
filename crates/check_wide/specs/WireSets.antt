-- The sets of all wires in four tables that are lent to read.
use Rattle.check_wide.specs.declared.wire_sets.WireSets.{WireSets}
use Rattle.check_wide.specs.Packed.{Sets, sets}

abbrev pub sets_of : WireSets → Sets
sets_of s = sets s.set0.now s.set1.now s.set2.now s.set3.now
