-- The gates from one on, in tables, under the choice of a list of their ways: the codes of their results, and how many
-- changes there are at least.
use Rattle.std.specs.Prelude.{ℕ, zero, suc, ◌+◌, ◌-◌, ◌≤◌, ◌<◌, cond, List, ◌≡◌, eqb, length, get_or}
use Rattle.netlist.specs.declared.Gate.{Gate}
use Rattle.netlist.specs.Table.{Tables, gate_at}
use Rattle.masking.specs.Mask.{third}
use Rattle.netlist.specs.Eval.{bit}
use Rattle.gates.specs.declared.Kind.{Kind}
use Rattle.gates.specs.declared.Kind.TheVariants.{Xor, And, Inv, Eqw, Eq}
use Rattle.fewest.specs.Choice.{chosen_gate}
use Rattle.fewest.specs.Fewest.{twice}
use Rattle.fewest.specs.Codes.{code_at, second_code, gate_change, coded}

-- the code of a result, by a gate's kind, its way and its operands' codes
abbrev pub code_by : Kind → ℕ → ℕ → ℕ → ℕ
code_by Xor d e f = third e (second_code e f)
code_by And d e f = cond (eqb d 1) f e
code_by Inv d e f = e
code_by Eqw d e f = e
code_by (Eq v) d e f = 1

-- the change of a gate that does not name one wire twice: those that do are counted beforehand
abbrev pub added_change : (ℕ → ℕ) → Gate → ℕ
added_change u g = cond (twice g) 0 (gate_change u g)

-- that change by the gate's kind, its operands' wires and their codes
abbrev pub added_by : Kind → ℕ → ℕ → ℕ → ℕ → ℕ
added_by Xor a b e f = cond (eqb a b) 0 (bit (eqb e f))
added_by And a b e f = cond (eqb a b) 0 (bit (eqb e f))
added_by Inv a b e f = 0
added_by Eqw a b e f = 0
added_by (Eq v) a b e f = 0

-- one gate is done, in way d: the codes after it, and its added change
pub record Stepped (u : List ℕ) (d : ℕ) (g : Gate) (v : List ℕ) (r : ℕ) : Type 0 where
  pub codes : v ≡ coded u (chosen_gate d g)
  pub added : r ≡ added_change (code_at u) g

-- the codes after k gates from one on, each in its way, and their added changes
abbrev pub codes_to : Tables → List ℕ → ℕ → List ℕ → ℕ → List ℕ
codes_to t ways from u zero = u
codes_to t ways from u (suc k) = coded (codes_to t ways from u k)
    (chosen_gate (get_or ways (from + k) 0) (gate_at t (from + k)))

abbrev pub added_to : Tables → List ℕ → ℕ → List ℕ → ℕ → ℕ
added_to t ways from u zero = 0
added_to t ways from u (suc k) = added_to t ways from u k + added_change (code_at (codes_to t ways from u k))
    (gate_at t (from + k))

-- gates from one on up to gate i, of the codes u₀ and the least changes before each b₀
pub record Done (t : Tables) (i : ℕ) (ways : List ℕ) (from : ℕ) (u₀ b₀ u b : List ℕ) : Type 0 where
  pub codes : u ≡ codes_to t ways from u₀ (i - from)
  pub lows : (k : ℕ) → k ≤ i - from → get_or b (from + k) 0 ≡ get_or b₀ from 0 + added_to t ways from u₀ k
  pub kept : (k : ℕ) → k ≤ from → get_or b k 0 ≡ get_or b₀ k 0
  pub code_length : length u ≡ length u₀
  pub low_length : length b ≡ length b₀

-- gates from one on up to gate r: one at least, if there is one, and all of them but where there are as many changes as
-- the bound
pub record Walked (t : Tables) (count : ℕ) (ways : List ℕ) (from bound : ℕ) (u₀ b₀ u b : List ℕ) (r : ℕ) : Type 0 where
  pub done : Done t r ways from u₀ b₀ u b
  pub on : from < count → from < r
  pub low : from ≤ r
  pub high : r ≤ count
  pub cut : r < count → bound ≤ get_or b r 0
