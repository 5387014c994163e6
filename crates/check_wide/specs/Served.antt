-- Wires and pairs that are to be served, in tables that are lent to read.
use Rattle.std.specs.Prelude.{ℕ, ◌+◌, ◌/◌, List, length}
use Rattle.check_wide.specs.WireSets.{sets_of}
use Rattle.check_wide.specs.declared.items.Items.{Items}
use Rattle.check_wide.specs.Items.{item_set, Serving}

-- how many there are
abbrev pub count_of : Items → ℕ
count_of s = length s.sets.set0.now + length s.pairs.now / 2

-- the set of item k
abbrev pub set_of : Items → ℕ → List ℕ
set_of s k = item_set (sets_of s.sets) s.pairs.now (length s.sets.set0.now) k

-- items from `start` on were given colours
abbrev pub ServingItems : Items → ℕ → List ℕ → List ℕ → List ℕ → List ℕ → Type 0
ServingItems s start marks marks' ps ps' = Serving (sets_of s.sets) s.pairs.now (length s.sets.set0.now) start marks
    marks' ps ps'
