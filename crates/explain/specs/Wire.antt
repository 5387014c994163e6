-- A wire's bits and its polynomial, over the input bits and the mask pair (docs/RULES.md, Leaks).
use Rattle.std.specs.Prelude.{ℕ, ◌+◌, ◌/◌, ◌^◌, Bool, true, List, length}
use Rattle.netlist.specs.Netlist.{Netlist}
use Rattle.netlist.specs.Eval.{bit, bits_at, wire_bits}
use Rattle.masking.specs.Leak.{masked, setting}
use Rattle.evaluate.specs.Lane.{lane, up_to}
use Rattle.leak_search.specs.Base.{part}
use Rattle.explain.specs.Polynomial.{coefficients}

-- the bit of wire w for a number: bits 0 and 1 of the number are m0 and m1, and bit i + 2 is input bit i, which comes
-- in XOR its mask; or that of the setting's base
abbrev pub wire_bit : Netlist → Bool → List ℕ → ℕ → ℕ → Bool
wire_bit N secrets codes w n = bits_at (wire_bits N (masked (lane 0 n) (lane 1 n) codes
    (part secrets codes (setting (length codes) (n / 4))))) w

-- the variables: the mask pair and the input bits
abbrev pub variables : List ℕ → ℕ
variables codes = length codes + 2

-- the coefficients of the wire's polynomial
unfoldable pub polynomial : Netlist → List ℕ → ℕ → List ℕ
polynomial N codes w = up_to (2 ^ variables codes)
    (λ m. bit (coefficients (variables codes) (wire_bit N true codes w) m))
