-- By the kind: the wires are below 2^32.
use native.Mathlib.Omega.{arith}
use Rattle.gates.proofs.EntriesLaws.{whole-entered}
use Rattle.gates.proofs.EntryFromGate.from.Goals as goal

pub returns-in-Xor : goal.returns-in-Xor
returns-in-Xor c = rw c.in-Xor.is (
  c.pack.ensures,
  λ W n. whole-entered _ (omega arith) (omega arith) W c.pack.ensures
      n,
)

pub returns-in-And : goal.returns-in-And
returns-in-And c = rw c.in-And.is (
  c.pack-in-And.ensures,
  λ W n. whole-entered _ (omega arith) (omega arith) W
      c.pack-in-And.ensures n,
)

pub returns-in-Inv : goal.returns-in-Inv
returns-in-Inv c = rw c.in-Inv.is (
  c.pack-in-Inv.ensures,
  λ W n. whole-entered _ (omega arith) (omega arith) W
      c.pack-in-Inv.ensures n,
)

pub returns-in-Eqw : goal.returns-in-Eqw
returns-in-Eqw c = rw c.in-Eqw.is (
  c.pack-in-Eqw.ensures,
  λ W n. whole-entered _ (omega arith) (omega arith) W
      c.pack-in-Eqw.ensures n,
)

pub returns-in-Eq : goal.returns-in-Eq
returns-in-Eq c = rw c.in-Eq.is (
  c.pack-in-Eq.ensures,
  λ W n. whole-entered _ (omega arith) (omega arith) W
      c.pack-in-Eq.ensures n,
)
