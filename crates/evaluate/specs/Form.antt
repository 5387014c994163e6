-- One form for all gates: (left AND factor) XOR term.
use Rattle.std.specs.Prelude.{ℕ, Bool, cond, eqb}
use Rattle.evaluate.specs.Lane.{lane}

-- a kind's factor, given its right operand's bit: bit k of the number is for kind k
abbrev pub factor_of : ℕ → Bool → Bool
factor_of k y = cond (eqb k 2) y (lane k 0x1a)

-- and its term
abbrev pub term_of : ℕ → Bool → Bool
term_of k y = cond (eqb k 1) y (lane k 0xc9)
