-- A gate with its kind apart from its wires, and its two entries.
use Prim.Native.Nat.{ℕ, zero, suc, ◌<◌}
use mathlib.Core.Path.{◌≡◌, refl, ap, ◌∙◌}
use mathlib.Core.List.{[], ◌∷◌, ◌++◌}
use native.Mathlib.Omega.{arith}
use lib.Dec.{lit<}
use Rattle.netlist.specs.declared.Gate.{Gate}
use Rattle.netlist.specs.declared.Gate.TheVariants as gate
use Rattle.netlist.specs.Netlist.{result}
use Rattle.netlist.specs.Table.{Tables, half, gate_of, gates_of, put_entry}
use Rattle.netlist.proofs.Puts.{entry-low, entry-high, Room, gates-put, wired-put}
use Rattle.gates.specs.declared.GateNumbers.{GateNumbers}
use Rattle.gates.specs.declared.Kind.{Kind}
use Rattle.gates.specs.declared.Kind.TheVariants.{Xor, And, Inv, Eqw, Eq}
use Rattle.gates.specs.declared.Entry.{Entry}
use Rattle.gates.specs.Kind.{gate_for}
use Rattle.gates.specs.Numbers.{gate_said, Names}
use Rattle.gates.specs.Entry.{packed, entry_for, entry_of, gate_entry, Entered, Stored}

-- ---- by the kind

-- the result
pub said-result : (k : Kind) (a b c : ℕ) → c ≡ result (gate_for k a b c)
said-result Xor a b c = refl
said-result And a b c = refl
said-result Inv a b c = refl
said-result Eqw a b c = refl
said-result (Eq v) a b c = refl

-- ---- the entries

-- a kind, two operands and a result as two entries
pub entered : (W k a b c : ℕ) → k < 8 → a < W → b < W → c < W → a < half → c < half → (g : Gate) → gate_of k a b c ≡ g
    → Entered W g (packed k a b c).operands (packed k a b c).results
entered W k a b c lk la lb lc fa fc g e =
    let ol = entry-low a b fa in
    let oh = entry-high a b fa in
    let rl = entry-low c k fc in
    let rh = entry-high c k fc in
    record {
      gate = rw (ol, oh, rl, rh) e;
      named = record { kind = rw rh lk; left = rw ol la; right = rw oh lb; result = rw rl lc };
    }

-- the entries hold the gate
abbrev Holds : ℕ → Gate → Entry → Type 0
Holds W g e = Entered W g e.operands e.results

-- by the kind
enter : (W : ℕ) (k : Kind) (a b c : ℕ) → a < half → c < half → Names W (gate_for k a b c) → Holds W (gate_for k a b c)
    (entry_for k a b c)
enter W Xor a b c fa fc n = entered W 1 a b c (lit< tt) n.0 n.1 n.2 fa fc _ refl
enter W And a b c fa fc n = entered W 2 a b c (lit< tt) n.0 n.1 n.2 fa fc _ refl
enter W Inv a b c fa fc n = entered W 3 a a c (lit< tt) n.0 n.0 n.1 fa fc _ refl
enter W Eqw a b c fa fc n = entered W 4 a a c (lit< tt) n.0 n.0 n.1 fa fc _ refl
enter W (Eq zero) a b c fa fc n = entered W 5 0 0 c (lit< tt) (omega (arith, n.1)) (omega (arith, n.1)) n.1 (lit< tt) fc
    _ refl
enter W (Eq (suc zero)) a b c fa fc n = entered W 6 0 0 c (lit< tt) (omega (arith, n.1)) (omega (arith, n.1)) n.1
    (lit< tt) fc _ refl
enter W (Eq (suc (suc v))) a b c fa fc n = absurd (omega (arith, n.0))

-- a gate's entries hold it
pub gate-entered : (g : GateNumbers) → g.left < half → g.result < half → (W : ℕ) {e : Entry} → e ≡ entry_of g
    → Names W (gate_said g)
    → Entered W (gate_said g) e.operands e.results
gate-entered g fa fc W p n = rw p (enter W g.kind g.left g.right g.result fa fc n)

-- a gate whose kind stands with its wires: its entries hold it
abbrev pub first_wire : Gate → ℕ
first_wire (gate.Xor a b c) = a
first_wire (gate.And a b c) = a
first_wire (gate.Inv a c) = a
first_wire (gate.Eqw a c) = a
first_wire (gate.Eq v c) = 0

pub whole-entered : (g : Gate) → first_wire g < half → result g < half → (W : ℕ) {e : Entry} → e ≡ gate_entry g
    → Names W g → Entered W g e.operands e.results
whole-entered (gate.Xor a b c) fa fc W p n = rw p (enter W Xor a b c fa fc n)
whole-entered (gate.And a b c) fa fc W p n = rw p (enter W And a b c fa fc n)
whole-entered (gate.Inv a c) fa fc W p n = rw p (enter W Inv a a c fa fc n)
whole-entered (gate.Eqw a c) fa fc W p n = rw p (enter W Eqw a a c fa fc n)
whole-entered (gate.Eq v c) fa fc W p n = rw p (enter W (Eq v) 0 0 c fa fc n)

-- a gate's entries, put after the first n gates
pub stored : {W n o r : ℕ} {g : Gate} {u : Tables} (t : Tables) → Room t n → Entered W g o r → u ≡ put_entry t n o r
    → Stored W t n g u
stored {W} {n} {o} {r} {g} {u} t room e p = rw p (record {
  gates = gates-put t n o r room ∙ ap (λ (h : Gate). gates_of t n ++ (h ∷ [])) e.gate;
  wired = λ w. wired-put t n o r room W w e.named;
})
