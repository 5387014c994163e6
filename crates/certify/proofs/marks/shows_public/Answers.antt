-- `certify_wires::marks::shows_public` meets its contract.
use mathlib.Core.Bool.{◌&&◌}
use Rattle.netlist.proofs.Tests.{both_true}
use Rattle.certify.proofs.Marking.{public-law, plain-atom}
use Rattle.certify.proofs.marks.shows_public.Goals as goal

pub returns : goal.returns
returns c = record {
  says = λ N codes w M K e.
      let m = c.args.marks.now in
      let r = c.args.known in
      let p = both_true _ _ e in
      let q = both_true _ _ p.0 in
      let u = both_true _ _ q.0 in
      public-law M
      (plain-atom m r.first c.is_public_atom.ensures u.0)
      (plain-atom m r.second c.is_public_atom-2.ensures u.1)
      (plain-atom m r.third c.is_public_atom-3.ensures q.1)
      (plain-atom m r.fourth c.is_public_atom-4.ensures p.1) K;
  is = λ i.
      ((c.is_public_atom.ensures i && c.is_public_atom-2.ensures i) && c.is_public_atom-3.ensures i) &&
      c.is_public_atom-4.ensures i;
}
