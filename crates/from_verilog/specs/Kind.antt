-- The number of each kind of token.
use Rattle.std.specs.Prelude.{ℕ}
use Rattle.from_verilog.specs.declared.tokens.Kind.{Kind}
use Rattle.from_verilog.specs.declared.tokens.Kind.TheVariants as K

-- the marks in the order of their list, the reserved words first; then a name; 0 the end of the text, 16 no token
abbrev pub number_of : Kind → ℕ
number_of K.End = 0
number_of K.Module = 1
number_of K.Input = 2
number_of K.Output = 3
number_of K.Wire = 4
number_of K.Assign = 5
number_of K.EndModule = 6
number_of K.Open = 7
number_of K.Close = 8
number_of K.Semicolon = 9
number_of K.Comma = 10
number_of K.Equals = 11
number_of K.Not = 12
number_of K.And = 13
number_of K.Xor = 14
number_of K.Name = 15
number_of K.Other = 16
