-- `read_opening_in`: questions 2 to 6 in order.
use mathlib.Core.Path.{sym, ◌∙◌}
use Rattle.reader.proofs.Heads.{head_at}
use Rattle.reader.proofs.opening.read_opening_in.Goals as goal

pub returns : goal.returns
returns c =
    let t = c.in_ok-ask_bytes.ensures in
    let s = rw c.in_ok-said.ensures.ok_part at c.read_header_in.ensures in
    let p = rw c.in_ok-h.ensures.ok_part at c.within.ensures in
    head_at _ _ _ t.0 t.1 _ (rw p.1 at s) (rw p.1 at p.0) (sym c.gates_counted.ensures ∙ c.if-not-gates_counted.false)
