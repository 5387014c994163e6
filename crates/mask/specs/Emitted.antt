-- What one source gate becomes: the gates that are written, and the twin of its result.
use Rattle.std.specs.Prelude.{ℕ, ◌≡◌, List}
use Rattle.netlist.specs.declared.Twin.{Twin}
use Rattle.writer.specs.WrittenGates.{WroteGates}
use Rattle.gates.specs.declared.Kind.{Kind}
use Rattle.mask_rule.specs.Rule.{steps_of, twin_of}

-- a source gate of kind k whose operands have the twins A and B was masked: the next place, and the twin of its result
pub record WroteKind (e : List ℕ) (at n c : ℕ) (k : Kind) (A B : Twin) (x : List ℕ) (r : ℕ × Twin) : Type 0 where
  pub wrote : WroteGates e at (steps_of n c k A B) x r.0
  pub twin : r.1 ≡ twin_of c k A B
