-- What the certifier promises is said of the text.
use Rattle.std.proofs.Common.{rules, refl}
use Rattle.command_checking.proofs.Certifying.{says_clean, says_leak, says_unknown}
use Rattle.command_checking.proofs.certified.certify_within.Goals as goal

pub returns-in-Ok-Clean : goal.returns-in-Ok-Clean
returns-in-Ok-Clean c = says_clean c.certify-answer.ensures c.in-Ok-Clean.field-0 c.in-Ok-Clean.is (search rules)

pub returns-in-Ok-Leak : goal.returns-in-Ok-Leak
returns-in-Ok-Leak c = says_leak c.certify-answer.ensures c.in-Ok-Leak.field-0 c.in-Ok-Leak.is (search rules)

pub returns-in-Ok-Unknown : goal.returns-in-Ok-Unknown
returns-in-Ok-Unknown c = says_unknown c.certify-answer.ensures c.in-Ok-Unknown.field-0 c.in-Ok-Unknown.is (search rules) refl
