-- Variables: none above M, none given twice, none read by an AND line before it is given, none put out and never given
-- (docs/RULES.md, AIGER).
use Rattle.std.specs.Prelude.{ℕ, Bool, true, false, not, ◌&&◌, List, [], ◌∷◌, map, leb}
use Rattle.netlist.specs.Lists.{every, member}
use Rattle.aiger.specs.File.{Literal, constant, plain, inverse, AndLine, File}

-- a literal that can be read when some variables are given
abbrev pub readable : List ℕ → Literal → Bool
readable given (constant b) = true
readable given (plain v) = member v given
readable given (inverse v) = member v given

-- a variable that can be given now
abbrev pub fresh : ℕ → List ℕ → ℕ → Bool
fresh M given v = leb v M && not (member v given)

-- a literal that an input line or a left side can give now
abbrev pub can_give : ℕ → List ℕ → Literal → Bool
can_give M given (constant b) = false
can_give M given (plain v) = fresh M given v
can_give M given (inverse v) = false

-- the variables given after some more, the last first
abbrev pub giving : List ℕ → List ℕ → List ℕ
giving given [] = given
giving given (v ∷ vs) = giving (v ∷ given) vs

-- variables that can be given one after another
abbrev pub fresh_all : ℕ → List ℕ → List ℕ → Bool
fresh_all M given [] = true
fresh_all M given (v ∷ vs) = fresh M given v && fresh_all M (v ∷ given) vs

-- AND lines, line by line: the operands are given before, the left side is not
abbrev pub and_good : ℕ → List ℕ → AndLine → Bool
and_good M given a = readable given a.first && readable given a.second && fresh M given a.left

abbrev pub ands_good : ℕ → List ℕ → List AndLine → Bool
ands_good M given [] = true
ands_good M given (a ∷ rest) = and_good M given a && ands_good M (a.left ∷ given) rest

-- the variables given by the inputs, and by all lines
abbrev pub inputs_given : File → List ℕ
inputs_given F = giving [] F.inputs

abbrev pub all_given : File → List ℕ
all_given F = giving (inputs_given F) (map (λ a. a.left) F.ands)

abbrev pub rules_kept : File → Bool
rules_kept F =
    fresh_all F.most [] F.inputs && ands_good F.most (inputs_given F) F.ands && every (readable (all_given F)) F.outputs
