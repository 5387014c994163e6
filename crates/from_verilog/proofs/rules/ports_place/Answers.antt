-- Three tokens.
use Rattle.from_verilog.proofs.Stages.{place_is}
use Rattle.from_verilog.proofs.rules.ports_place.Goals as goal

pub returns : goal.returns
returns c = place_is c.next-word.ensures c.next-name.ensures c.next-open.ensures
