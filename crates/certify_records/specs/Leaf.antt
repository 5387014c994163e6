-- Leaves: records of one atom, the wire's own bit at one mask setting.
use Rattle.std.specs.Prelude.{ℕ, ◌+◌, ◌*◌, ◌%◌, ◌<◌, Bool, ◌≡◌, Option, Some, None}
use Rattle.netlist.specs.Eval.{differs, bit}
use Rattle.evaluate.specs.Lane.{lane}
use Rattle.certify_records.specs.declared.Record.{Record}
use Rattle.certify_records.specs.Record.{Right}

-- atom 8 w + 2 m + p is the bit of wire w at mask setting m, XOR p
pub record OwnAtoms (bits : ℕ → Bool) (wire : Bool → Bool → Bool) (w : ℕ) : Type 0 where
  pub atom : (m : ℕ) → m < 4 → (p : Bool) → bits (8 * w + (2 * m + bit p)) ≡ differs (wire (lane 0 m) (lane 1 m)) p

-- what mask setting m shows of a table decides the whole: place l of another table shows it, whose atom says whether it
-- is as in the first setting of the atoms
pub record Decides (t m u : ℕ) : Type 0 where
  pub mask : m < 4
  pub each : (s : ℕ) → s < 16 → (l : ℕ) → l < 64 → lane 2 l ≡ differs (lane (m + 4 * s) t) (lane m t) → lane l u
      ≡ lane (l % 4 + 4 * s) t

abbrev pub TwoIs : ℕ → Option (ℕ × ℕ) → Type 0
TwoIs t (Some (m, u)) = Decides t m u
TwoIs t None = Unit

-- a record of wire w that is right where another is
abbrev pub LeafIs : ℕ → Record → Option Record → Type 0
LeafIs w r (Some s) = (bits : ℕ → Bool) (wire : Bool → Bool → Bool) → OwnAtoms bits wire w → Right bits wire r
    → Right bits wire s
LeafIs w r None = Unit

-- atom a is a bit of a wire: at mask setting m where it is 8 w + 2 m + p, XOR p
abbrev pub AtomOf : (ℕ → Bool) → (Bool → Bool → Bool) → ℕ → Type 0
AtomOf bits wire a = bits a ≡ differs (wire (lane 1 a) (lane 2 a)) (lane 0 a)

-- an atom of a wire is an atom of another, where two records are right for them
pub record OneAtom (r : Record) (a : ℕ) (s : Record) (b : ℕ) : Type 0 where
  pub equal : {bits : ℕ → Bool} {u v : Bool → Bool → Bool} → Right bits u r → Right bits v s → AtomOf bits u a
      → AtomOf bits v b → bits a ≡ bits b
