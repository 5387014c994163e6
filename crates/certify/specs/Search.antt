-- The search for a witness, round by round: which settings are chosen, and what is found.
use Rattle.std.specs.Prelude.{ℕ, zero, suc, ◌+◌, ◌*◌, ◌/◌, ◌^◌, cond, List, [], ◌∷◌, ◌++◌, eqb, length, get_or, Option}
use Rattle.std.specs.Prelude.{Some, None}
use Rattle.std.specs.Int.Bits.{bit_and, bit_xor}
use Rattle.netlist.specs.Netlist.{Netlist}
use Rattle.netlist.specs.Eval.{bits_at, wire_bits}
use Rattle.evaluate.specs.Lane.{lane, lanes, word, up_to}
use Rattle.leak_search.specs.Block.{ones_of}
use Rattle.leak_search.specs.declared.difference.Leak.{Leak}
use Rattle.leak_search.specs.Difference.{LowestDifference}
use Rattle.certify_records.specs.Mix.{mixed}
use Rattle.certify.specs.Step.{mask_word}

-- the generator's number after so many steps
abbrev pub drawn : ℕ → ℕ → ℕ
drawn zero seed = seed
drawn (suc k) seed = mixed (drawn k seed)

-- the word of an input bit with a code, by a number of the generator
abbrev pub input_word : ℕ → ℕ → ℕ
input_word code noise =
    cond (eqb code 0) (word 64 (λ j. lane 32 noise))
    (bit_xor (bit_and (bit_and noise 0xffff_ffff_ffff_fff0 / 2 ^ 2) 0x1111_1111_1111_1111 * 15) (mask_word code))

-- the words of all input wires in the round that starts from a number
abbrev pub input_words : List ℕ → ℕ → List ℕ
input_words codes seed =
    up_to (length codes) (λ i. input_word (get_or codes i 0) (drawn (i + 1) seed)) ++ (mask_word 1 ∷ mask_word 2 ∷ [])

-- the words of all wires
abbrev pub round_words : Netlist → List ℕ → ℕ → List ℕ
round_words N codes seed = up_to N.wires λ w. word 64 λ j. bits_at (wire_bits N (lanes j (input_words codes seed))) w

-- what a round finds: the lowest wire whose count in some setting is not that in setting 0, and the first such setting
abbrev pub Looked : List ℕ → Option (Leak ℕ) → Type 0
Looked words found = LowestDifference (λ w s. ones_of words w 0) (ones_of words) (length words) 16 found

-- so many rounds from a number on: the first that finds a leak, with its words; or none does
pub data Searched (N : Netlist) (codes : List ℕ) : ℕ → ℕ → Option (Leak ℕ) → List ℕ → Type 0 where
  over : (seed : ℕ) (words : List ℕ) → Searched N codes zero seed None words
  hit : (rounds seed : ℕ) (p : Leak ℕ) → Looked (round_words N codes seed) (Some p)
      → Searched N codes (suc rounds) seed (Some p) (round_words N codes seed)
  miss : (rounds seed : ℕ) (found : Option (Leak ℕ)) (words : List ℕ) → Looked (round_words N codes seed) None
      → Searched N codes rounds (drawn (length codes) seed) found words → Searched N codes (suc rounds) seed found words

-- the rounds of a call, and the number that it starts from
abbrev pub all_rounds : ℕ
all_rounds = 64

abbrev pub first_seed : ℕ
first_seed = 0x9e37_79b9_7f4a_7c15

-- what the search finds of a netlist
abbrev pub Searches : Netlist → List ℕ → Option (Leak ℕ) → List ℕ → Type 0
Searches N codes found words = Searched N codes all_rounds first_seed found words
