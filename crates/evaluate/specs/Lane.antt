-- Sixty-four settings in one word: bit j of each word, its lane j, belongs to setting j.
use Rattle.std.specs.Prelude.{ℕ, zero, suc, ◌+◌, ◌*◌, ◌/◌, ◌%◌, Bool, false, List, [], ◌∷◌, map, eqb, get_or}
use Rattle.netlist.specs.Netlist.{Netlist, output_bits}
use Rattle.netlist.specs.Eval.{outputs_of, bit}

-- bit j of a number
abbrev pub lane : ℕ → ℕ → Bool
lane zero w = eqb (w % 2) 1
lane (suc j) w = lane j (w / 2)

-- the wires' bits in setting j
abbrev pub lanes : ℕ → List ℕ → List Bool
lanes j ws = map (lane j) ws

-- the word whose lane j is f j, for each j below k
abbrev pub word : ℕ → (ℕ → Bool) → ℕ
word zero f = 0
word (suc k) f = bit (f 0) + 2 * word k (λ j. f (suc j))

-- the values of f below n
abbrev pub up_to : ℕ → (ℕ → ℕ) → List ℕ
up_to zero f = []
up_to (suc n) f = f 0 ∷ up_to n (λ i. f (suc i))

-- sixty-four runs: lane j of the output words is what a run on lane j of the input words gives
unfoldable pub output_words : Netlist → List ℕ → List ℕ
output_words N list = up_to (output_bits N) λ i. word 64 λ j. get_or (outputs_of N (lanes j list)) i false
