-- `answer`: the source read, and its masked netlist.
use mathlib.Core.List.{[], ◌∷◌}
use lib.Dec.{lit<}
use lib.ListN.{length, length-take}
use Rattle.std.proofs.lemmas.Result.{err_from_is_err_and}
use Rattle.netlist.specs.Netlist.{source_limits}
use Rattle.netlist.proofs.Answering.{table_at}
use Rattle.netlist.proofs.Size.{small-fits}
use Rattle.mask.proofs.Promised.{read_of}
use Rattle.mask_fewest.proofs.Promised.{call-not, call-read}
use native.Mathlib.Omega.{arith}
use Rattle.mask_fewest.proofs.answer.Goals as goal

pub deliver-requires : goal.deliver-requires
deliver-requires c =
    let s = c.args in
    let k = rw c.source_limits-l.ensures at c.in_ok-h.ensures in
    let a = k.1 in
    let long = table_at (source_limits s.sizes) (length s.operands.now ∷ length s.results.now ∷ length s.marks.now ∷
    length s.wires.now
    ∷ length s.ways.now ∷ length s.best.now ∷ length s.spans.now ∷ []) in
    record {
      fronts = record {
        wired = a.wired;
        few = omega (arith, a.wires, (small-fits s.sizes).1);
        gates = omega (arith, a.gates);
        outs = a.out_bits;
        wires = omega (arith, a.wires, long 3 k.0 (lit< tt));
        marks = omega (arith, a.wires, long 2 k.0 (lit< tt), c.read.auto.marks);
      };
      widths = omega (arith, a.many_in, length-take c.in_ok-h.h.input_values c.read.new.inputs);
      ways = omega (arith, a.wires, long 4 k.0 (lit< tt));
      best = omega (arith, a.wires, long 5 k.0 (lit< tt));
      spans = omega (arith, a.wires, long 6 k.0 (lit< tt));
      netlist = a.is;
      read = read_of a;
    }

pub returns-in_err-h : goal.returns-in_err-h
returns-in_err-h c =
    let s = c.args in
    let p = err_from_is_err_and c.from_residual.result c.from_residual.ensures.1 in
    let k = rw c.source_limits-l.ensures at c.in_err-h.ensures in
    rw (p.1, p.2)
    (call-not s.sizes s.text.now s.codes.now s.wanted.now s.budget s.out.now s.in_codes.now s.out_codes.now s.tally.now
    s.operands.now
    s.results.now s.wires.now s.marks.now s.ways.now s.best.now s.spans.now k)

pub returns : goal.returns
returns c =
    let s = c.args in
    let k = rw c.source_limits-l.ensures at c.in_ok-h.ensures in
    call-read s.sizes s.text.now s.codes.now s.wanted.now s.budget s.out.now s.in_codes.now s.out_codes.now s.tally.now
    s.operands.now
    s.results.now s.wires.now s.marks.now s.ways.now s.best.now s.spans.now k c.deliver.ensures
