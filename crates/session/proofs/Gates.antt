-- A record's gate, and its entries.
use Prim.Native.Nat.{ℕ, ◌<◌}
use mathlib.Core.Path.{◌≡◌, sym, subst}
use mathlib.Core.Option.{some}
use native.Mathlib.Omega.{arith}
use lib.Dec.{T, eqb, ltb, ltb→lt, eqb→eq}
use Rattle.netlist.specs.declared.Gate.{Gate}
use Rattle.netlist.specs.declared.Gate.TheVariants.{Xor, And, Inv, Eqw, Eq}
use Rattle.netlist.specs.Netlist.{result}
use Rattle.netlist.specs.Outcome.{done, ask, given}
use Rattle.netlist.specs.Read.{operands_given}
use Rattle.netlist.specs.Table.{half}
use Rattle.netlist.proofs.Tests.{both}
use Rattle.netlist.proofs.Questions.{ask-done, given-done, and_then-done, done-same}
use Rattle.gates.specs.declared.records.GateRecord.{GateRecord}
use Rattle.gates.specs.declared.records.SourceRecord.{SourceRecord}
use Rattle.gates.specs.Records.{gate_of, gate_in, gate_as}
use Rattle.gates.specs.declared.GateNumbers.{GateNumbers}
use Rattle.gates.specs.declared.Kind.{Kind}
use Rattle.gates.specs.declared.Entry.{Entry}
use Rattle.gates.specs.Numbers.{Names}
use Rattle.gates.specs.Entry.{entry_of}
use Rattle.gates.proofs.EntriesLaws.{gate-entered}
use Rattle.session.specs.Asked.{gate_good}
use Rattle.session.specs.Parts.{GateIs}

-- what questions 7 to 9 say of a gate that they admit
pub record Admitted (next : ℕ) (r : GateRecord) (g : Gate) : Type 0 where
  pub gate : gate_of r ≡ some g
  pub operands : T (operands_given (λ w. ltb w next) g)
  pub result : result g ≡ next

pub admitted : (next : ℕ) (r : GateRecord) (g : Gate) → gate_good next r ≡ done g → Admitted next r g
admitted next r g e =
    let k = and_then-done (given 7 (gate_of r)) _ g e in
    let h : Gate = k.0 in
    let q8 = ask-done 8 (operands_given (λ w. ltb w next) h) (ask 9 (eqb (result h) next) (done h)) g k.2 in
    let q9 = ask-done 9 (eqb (result h) next) (done h) g q8.1 in
    let same : h ≡ g = done-same h g q9.1 in
    subst (Admitted next r) same (record {
      gate = given-done 7 (gate_of r) h k.1;
      operands = q8.0;
      result = eqb→eq (result h) next q9.0;
    })

-- the record's gate, of a kind
abbrev pub numbers_of : Kind → SourceRecord → GateNumbers
numbers_of k r = record { kind = k; left = r.first; right = r.second; result = r.result }

-- its wires
names : (W next : ℕ) (g : Gate) → T (operands_given (λ w. ltb w next) g) → result g ≡ next → next < W → Names W g
names W next (Xor a b c) t e l =
    let p = both (ltb a next) (ltb b next) t in
    (omega (arith, ltb→lt a next p.0), omega (arith, ltb→lt b next p.1), omega (arith, e))
names W next (And a b c) t e l =
    let p = both (ltb a next) (ltb b next) t in
    (omega (arith, ltb→lt a next p.0), omega (arith, ltb→lt b next p.1), omega (arith, e))
names W next (Inv a c) t e l = (omega (arith, ltb→lt a next t), omega (arith, e))
names W next (Eqw a c) t e l = (omega (arith, ltb→lt a next t), omega (arith, e))
names W next (Eq v c) t e l = (ltb→lt v 2 t, omega (arith, e))

-- ---- what `entry` answers

-- a record's gate is the one that its numbers say
pub record-yes : (r : SourceRecord) (next : ℕ) (k : Kind) {e : Entry} → done (gate_as (gate_in r) k)
    ≡ gate_good next (gate_in r)
    → e ≡ entry_of (numbers_of k r) → r.first < half → r.result < half → GateIs r next e
record-yes r next k h p fa fc =
    let g = gate_as (gate_in r) k in
    let a = admitted next (gate_in r) g (sym h) in
    record {
      gate = g;
      admitted = sym h;
      entered = λ W l. gate-entered (numbers_of k r) fa fc W p
          (names W next g a.operands a.result l);
    }
