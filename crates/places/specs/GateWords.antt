-- The word of a gate line that question 8 or 9 refuses. The words of a line are counted from 0: first come two counts,
-- then the operands or the constant, then the result.
use Rattle.std.specs.Prelude.{ℕ, Bool, Option, Some, None, cond, not, ◌&&◌, leb, ltb}
use Rattle.netlist.specs.declared.Gate.{Gate}
use Rattle.netlist.specs.declared.Gate.TheVariants.{Xor, And, Inv, Eqw, Eq}
use Rattle.netlist.specs.declared.Refusal.{Refusal}
use Rattle.netlist.specs.declared.Refusal.TheVariants as Q
use Rattle.netlist.specs.Netlist.{result}

-- the first operand that is not among the wires that a test tells, or a constant that is no bit
abbrev pub lacking : (ℕ → Bool) → Gate → Option ℕ
lacking has (Xor a b c) = cond (has a) (cond (has b) None (Some 3)) (Some 2)
lacking has (And a b c) = cond (has a) (cond (has b) None (Some 3)) (Some 2)
lacking has (Inv a c) = cond (has a) None (Some 2)
lacking has (Eqw a c) = cond (has a) None (Some 2)
lacking has (Eq v c) = cond (ltb v 2) None (Some 2)

abbrev pub result_word : Gate → ℕ
result_word (Xor a b c) = 4
result_word (And a b c) = 4
result_word (Inv a c) = 3
result_word (Eqw a c) = 3
result_word (Eq v c) = 3

-- question 9, with a test of the wires that are given: the result is none of the n inputs, below W and not given
abbrev pub result_refused : (ℕ → Bool) → ℕ → ℕ → Gate → Option (Refusal × ℕ)
result_refused has n W g = cond (leb n (result g) && ltb (result g) W && not (has (result g))) None
    (Some (Q.Wire, result_word g))

-- question 8, and then 9
abbrev pub after_operands : Option ℕ → Option (Refusal × ℕ) → Option (Refusal × ℕ)
after_operands (Some word) r = Some (Q.Operands, word)
after_operands None r = r

abbrev pub gate_refused : (ℕ → Bool) → ℕ → ℕ → Gate → Option (Refusal × ℕ)
gate_refused has n W g = after_operands (lacking has g) (result_refused has n W g)
