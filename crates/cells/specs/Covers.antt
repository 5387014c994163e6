-- What a cover says of the bits of its inputs.
use Rattle.std.specs.Prelude.{Bool, true, false, not, ◌&&◌, ◌||◌, List, [], ◌∷◌}
use Rattle.cells.specs.declared.cover.Literal.{Literal}
use Rattle.cells.specs.declared.cover.Literal.TheVariants.{Zero, One, Any}
use Rattle.cells.specs.declared.cover.Cube.{Cube}
use Rattle.cells.specs.declared.cover.Cover.{Cover}

-- a literal admits a bit
abbrev pub literal_admits : Literal → Bool → Bool
literal_admits Zero b = not b
literal_admits One b = b
literal_admits Any b = true

-- literals admit the bits at their places
abbrev pub literals_admit : List Literal → List Bool → Bool
literals_admit [] bs = true
literals_admit (l ∷ ls) [] = true
literals_admit (l ∷ ls) (b ∷ bs) = literal_admits l b && literals_admit ls bs

abbrev pub cube_admits : Cube → List Bool → Bool
cube_admits c bs = literals_admit c.literals bs

-- some cube admits the bits
abbrev pub some_admits : List Cube → List Bool → Bool
some_admits [] bs = false
some_admits (c ∷ cs) bs = cube_admits c bs || some_admits cs bs

abbrev pub same_bit : Bool → Bool → Bool
same_bit true b = b
same_bit false b = not b

-- the bit that a cover gives: its value where a cube admits the bits, the other one elsewhere
abbrev pub cover_bit : Cover → List Bool → Bool
cover_bit c bs = same_bit c.value (some_admits c.cubes.items bs)
