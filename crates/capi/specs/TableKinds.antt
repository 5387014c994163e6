-- How many words a working table takes.
use Rattle.std.specs.Prelude.{ℕ, ◌+◌, ◌*◌, ◌/◌}
use Rattle.capi.specs.declared.table_kinds.Kind.{Kind}
use Rattle.capi.specs.declared.table_kinds.Kind.TheVariants.{Words, Halves, Bytes, Records, Names, NameHalves}

-- the words that hold a table's entries for W wires
abbrev pub words_of : Kind → ℕ → ℕ
words_of Words W = W
words_of Halves W = (W + 1) / 2
words_of Bytes W = (W + 7) / 8
words_of Records W = W * 15
words_of Names W = W * 8
words_of NameHalves W = W * 4

-- the entries that n words hold
abbrev pub entries_in : Kind → ℕ → ℕ
entries_in Words n = n
entries_in Halves n = n * 2
entries_in Bytes n = n * 8
entries_in Records n = n
entries_in Names n = n
entries_in NameHalves n = n * 2
