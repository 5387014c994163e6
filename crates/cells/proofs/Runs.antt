-- What a run of a well-formed netlist leaves satisfies each gate.
use Rattle.std.proofs.Common.{Bool, List, [], ◌∷◌}
use Rattle.std.specs.List.{All}
use Rattle.std.proofs.lemmas.List.Elements.{All-nil, All-cons}
use Rattle.netlist.specs.declared.Gate.{Gate}
use Rattle.netlist.specs.Lists.{All as Each, empty, each}
use Rattle.netlist.specs.Netlist.{Netlist}
use Rattle.netlist.specs.Eval.{bits_at, wire_bits}
use Rattle.netlist.specs.Read.{WellFormed}
use Rattle.netlist.proofs.Models.{bits-satisfy}
use Rattle.cells.specs.Computes.{Satisfies, Holds}

by_index : (P : Gate → Type 0) (gs : List Gate) → Each P gs → All P gs
by_index P [] empty = All-nil P
by_index P (g ∷ gs) (each p ps) = All-cons P g gs p (by_index P gs ps)

pub runs : (N : Netlist) (ins : List Bool) → WellFormed N → Holds (bits_at (wire_bits N ins)) N.gates
runs N ins F = by_index (Satisfies (bits_at (wire_bits N ins))) N.gates (bits-satisfy F ins)
