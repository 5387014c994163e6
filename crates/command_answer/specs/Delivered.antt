-- Where an answer has the bytes that were delivered.
use Rattle.std.specs.Prelude.{ℕ, ◌≡◌, ◌++◌, ◌⊎◌, List, [], ◌∷◌, Option, None, Some}
use Rattle.command_answer.specs.declared.answer.Answer.{Answer}
use Rattle.command_answer.specs.declared.answer.NewFile.{NewFile}

-- a file of an answer, after others, holds bytes
pub record InFile (a : Answer) (bytes : List ℕ) : Type 0 where
  pub others : List NewFile
  pub file : NewFile
  pub holds : file.bytes.items ≡ bytes
  pub stands : a.files.items ≡ others ++ file ∷ []

-- bytes are printed, after what was said before
pub record InOutput (a : Answer) (bytes : List ℕ) : Type 0 where
  pub said : List ℕ
  pub stands : a.output.items ≡ said ++ bytes

-- bytes stand in an answer, in a file of their own or in what is printed
abbrev pub Stands : Answer → List ℕ → Type 0
Stands a bytes = InFile a bytes ⊎ InOutput a bytes

-- bytes go to the end of the output, or where they have a name to a file of their own after the others
abbrev pub Delivers : {S : Type 0} → Option S → List ℕ → Answer → Answer → Type 0
Delivers None bytes old new = (new.output.items ≡ old.output.items ++ bytes) × (new.files.items ≡ old.files.items)
Delivers (Some name) bytes old new = (new.output.items ≡ old.output.items)
    × ((f : NewFile) × (f.bytes.items ≡ bytes) × (new.files.items ≡ old.files.items ++ f ∷ []))
