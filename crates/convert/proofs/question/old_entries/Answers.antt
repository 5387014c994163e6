-- `old_entries`: a test of each entry.
use Rattle.std.proofs.Common.{rules, ◌≡◌, ◌↔◌, true, IsTrue, EachIndex, get_or}
use Rattle.convert.specs.Convert.{old_entry}
use Rattle.convert.proofs.OldEntries.{every-from_iff}
use Rattle.convert.proofs.question.old_entries.Goals as goal

pub returns : goal.returns
returns c =
    let h : IsTrue c.all.result ↔ EachIndex c.args.results.now (λ k. old_entry (get_or c.args.results.now k 0) ≡ true)
    = search rules in
    every-from_iff _ _ h.0 h.1
