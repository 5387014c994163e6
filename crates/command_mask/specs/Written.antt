-- What the answer of Mask writes.
use Rattle.std.specs.Prelude.{ℕ, List}
use Rattle.command_answer.specs.declared.answer.Answer.{Answer}
use Rattle.command_answer.specs.Delivered.{Stands}
use Rattle.command_masking.specs.Answers.{IsMasked}

-- in a file of its own or in what is printed stands what Mask gives for a source, its input codes and the wanted codes
pub record WritesMasked (text codes wanted : List ℕ) (a : Answer) : Type 0 where
  pub masked : List ℕ
  pub out_codes : List ℕ
  pub gives : IsMasked text codes wanted masked out_codes
  pub stands : Stands a masked
