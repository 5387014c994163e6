-- `old_header`: two lines and a blank one.
use Rattle.writer.proofs.Writing.{wrote_then}
use Rattle.write_netlist.proofs.Headers.{wrote-parties}
use Rattle.write_netlist.proofs.header.old_header.Goals as goal

pub returns : goal.returns
returns c =
    let s = c.args.shape in
    wrote_then c.counts-second.ensures
    (wrote_then
    (wrote-parties s.ins.now s.outs.now (c.entry-3.ensures 0 (λ x p. p))
    (c.entry.ensures 0 (λ x p. p))
    (c.entry-2.ensures 0 (λ x p. p))
    c.numbers-blank.ensures)
    c.put.ensures)
