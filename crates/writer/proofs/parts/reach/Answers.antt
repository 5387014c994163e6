-- `reach`: a table of all entries, and one of a thousand or fewer.
use Rattle.writer.proofs.PartLines.{worded-whole, worded-low}
use native.Mathlib.Omega.{arith}
use Rattle.writer.proofs.parts.reach.Goals as goal

pub returns-in-2000 : goal.returns-in-2000
returns-in-2000 c = λ n h. worded-whole c.in-2000.is h

pub returns-in-0-to-1000 : goal.returns-in-0-to-1000
returns-in-0-to-1000 c = λ n h. worded-low (omega arith) h
