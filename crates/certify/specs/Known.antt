-- What the certifier knows of a netlist's wires under input codes.
use Rattle.std.specs.Prelude.{ℕ, ◌/◌, Bool, List, ◌≡◌}
use Rattle.netlist.specs.Netlist.{Netlist}
use Rattle.netlist.specs.Eval.{differs, bits_at, wire_bits}
use Rattle.netlist.specs.Table.{made_of}
use Rattle.masking.specs.Leak.{masked, SamePublic}
use Rattle.evaluate.specs.Lane.{lane}
use Rattle.certify_records.specs.declared.Record.{Record}
use Rattle.certify_records.specs.Record.{Right}

-- the bit of wire w under an input setting, at a mask setting
abbrev pub bit_of : Netlist → List ℕ → List Bool → ℕ → Bool → Bool → Bool
bit_of N codes x w m0 m1 = bits_at (wire_bits N (masked m0 m1 codes x)) w

-- atom 8 w + 2 m + p is the bit of wire w at mask setting m, XOR p: the input setting alone decides it
abbrev pub atom_bit : Netlist → List ℕ → List Bool → ℕ → Bool
atom_bit N codes x a = differs (bit_of N codes x (a / 8) (lane 1 a) (lane 2 a)) (lane 0 a)

-- a record is right for a wire under every input setting
pub record Known (N : Netlist) (codes : List ℕ) (w : ℕ) (r : Record) : Type 0 where
  pub right : (x : List Bool) → Right (atom_bit N codes x) (bit_of N codes x w) r

-- a wire shows the same under input settings that agree in their public bits
pub record Open (N : Netlist) (codes : List ℕ) (w : ℕ) : Type 0 where
  pub same : (x y : List Bool) → SamePublic codes x y → (m0 m1 : Bool) → bit_of N codes x w m0 m1
      ≡ bit_of N codes y w m0 m1

-- wire w is what a kind of gate makes of wires p and q
pub record Makes (N : Netlist) (codes : List ℕ) (kind p q w : ℕ) : Type 0 where
  pub bit : (x : List Bool) (m0 m1 : Bool) → bit_of N codes x w m0 m1 ≡ made_of kind (bit_of N codes x p m0 m1)
      (bit_of N codes x q m0 m1)
