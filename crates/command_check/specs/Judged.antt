-- What a judgement is told as.
use Rattle.std.specs.Prelude.{ℕ, ◌≡◌, ◌⊎◌, List, ⊤}
use Rattle.command_answer.specs.declared.answer.Answer.{Answer}
use Rattle.command_answer.specs.declared.answer.Status.TheVariants as Status
use Rattle.command_checking.specs.Says.{Says}
use Rattle.command_checking.specs.declared.verdict.Judgement.{Judgement}
use Rattle.command_checking.specs.declared.verdict.Verdict.{Verdict}
use Rattle.command_checking.specs.declared.verdict.Verdict.TheVariants.{Clean, Leak, Unknown}
use Rattle.command_checking.specs.declared.verdict.PairVerdict.{PairVerdict}
use Rattle.command_checking.specs.declared.verdict.PairVerdict.TheVariants as pairs

-- a wire leaks
abbrev pub IsLeak : Verdict → Type 0
IsLeak Clean = ⊥
IsLeak (Leak found) = ⊤
IsLeak (Unknown wire) = ⊥

-- a pair leaks
abbrev pub IsBad : PairVerdict → Type 0
IsBad pairs.Clean = ⊥
IsBad (pairs.Bad before) = ⊤
IsBad pairs.Unknown = ⊥

-- a wire or a pair leaks
abbrev pub IsFound : Judgement → Type 0
IsFound j = IsLeak j.verdict ⊎ IsBad j.pairs

-- an answer tells a judgement: a status of 0 where no wire and no pair leaks, of 1 where one does
pub record Tells (j : Judgement) (a : Answer) : Type 0 where
  pub done : a.status ≡ Status.Done → (j.verdict ≡ Clean) × (j.pairs ≡ pairs.Clean)
  pub found : a.status ≡ Status.Found → IsFound j

-- an answer tells what a judgement says of a text under input codes
pub record Judges (text codes : List ℕ) (a : Answer) : Type 0 where
  pub judgement : Judgement
  pub says : Says text codes judgement.verdict
  pub tells : Tells judgement a
