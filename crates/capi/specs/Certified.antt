-- The number that a call from C gets for an answer of the certifier's.
use Rattle.std.specs.Prelude.{Result, Ok, Err, ◌≡◌, ℤ, pos, neg_ℤ}
use Rattle.netlist.specs.declared.Refusal.{Refusal}
use Rattle.netlist.specs.Refusal.{number_of}
use Rattle.certify.specs.declared.judge.Verdict.{Verdict}
use Rattle.certify.specs.declared.judge.Verdict.TheVariants.{Clean, Leak, Unknown}

-- 0 for clean, 1 for a leak, 2 for unknown, or minus the number of the question
abbrev pub certified_number : Result Verdict Refusal → ℤ
certified_number (Ok Clean) = pos 0
certified_number (Ok Leak) = pos 1
certified_number (Ok Unknown) = pos 2
certified_number (Err q) = neg_ℤ (pos (number_of q))

-- what the certifier promises of its answer, which the caller gets as a number
pub record ToldCertified (Promise : Result Verdict Refusal → Type 0) (r : ℤ) : Type 0 where
  pub answer : Result Verdict Refusal
  pub promise : Promise answer
  pub told : r ≡ certified_number answer
