-- States of names in a lent table, entry i that of the i-th name.
use Rattle.std.specs.Prelude.{ℕ, ◌-◌, Option, Some, None, Bool, cond, List, eqb, leb, set, take}
use Rattle.netlist.specs.Lists.{every}
use Rattle.from_verilog.specs.Names.{found}
use Rattle.from_verilog.specs.declared.states.State.{State}
use Rattle.from_verilog.specs.declared.states.State.TheVariants as S
use Rattle.from_verilog.specs.Wires.{wire_of}

abbrev pub state_number : State → ℕ
state_number S.Input = 1
state_number S.Output = 2
state_number S.Wire = 3
state_number S.Port = 4
state_number S.Readable = 5
state_number S.ReadableOutput = 6

-- the number of a declared name's state, 0 where none was said
abbrev pub kind_number : Option State → ℕ
kind_number None = 0
kind_number (Some s) = state_number s

-- the states after a move of a name from one state to another, where it is in the first
abbrev pub becomes : List ℕ → List ℕ → List ℕ → ℕ → List ℕ → ℕ → ℕ → List ℕ
becomes t words states n w old new = cond (eqb (wire_of t words states n w) old)
    (set states (found t words w n - 1) new) states

-- the first n states are at least one
abbrev pub all_from : List ℕ → ℕ → ℕ → Bool
all_from states n least = every (λ x. leb least x) (take n states)
