-- What an answer of the check of netlists with many inputs says.
use Rattle.std.specs.Prelude.{Result}
use Rattle.netlist.specs.declared.Refusal.{Refusal}
use Rattle.netlist.specs.Outcome.{Outcome}
use Rattle.netlist.specs.Services.{stands_for}
use Rattle.check_pairs.specs.Call.{BothAnswers}
use Rattle.check_pairs.specs.Search.{bad_of}
use Rattle.check_wide.specs.Wide.{WideLeak}
use Rattle.check_wide.specs.Told.{WideFound, told_of}

-- both answers
abbrev pub both_of : WideFound → BothAnswers WideLeak
both_of f = record { leak = told_of f.leak; pairs = bad_of f.pair }

-- the outcome that an answer stands for
abbrev pub outcome_of : Result WideFound Refusal → Outcome (BothAnswers WideLeak)
outcome_of a = stands_for both_of a
