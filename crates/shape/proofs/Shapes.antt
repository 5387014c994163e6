-- From a text that was read to its shape.
use Prim.Native.Nat.{ℕ, ◌≤◌}
use mathlib.Core.Path.{◌≡◌, sym, ap, ◌∙◌}
use mathlib.Core.List.{List}
use native.Mathlib.Omega.{arith}
use lib.ListN.{length}
use lib.Seq.{length-take-le}
use Rattle.netlist.specs.declared.Limits.{Limits}
use Rattle.netlist.specs.Table.{Tables}
use Rattle.netlist.proofs.Puts.{length-gates}
use Rattle.reader.specs.declared.header.Header.{Header}
use Rattle.reader.specs.Whole.{ReadAt}
use Rattle.shape.specs.Promise.{shape_of, told}

module _ {L : Limits} {t ins outs : List ℕ} {tabs : Tables} {h : Header} (a : ReadAt L t ins outs tabs h) where
  -- the header's numbers are the netlist's
  pub shape-same : L.inputs ≤ length ins → L.outputs ≤ length outs → told h ≡ shape_of a.is
  shape-same i o =
      let in_values : h.input_values ≡ length a.is.inputs
      = sym (length-take-le h.input_values ins (omega (arith, a.many_in))) ∙ ap length a.inputs in
      let out_values : h.output_values ≡ length a.is.outputs
      = sym (length-take-le h.output_values outs (omega (arith, a.many_out))) ∙ ap length a.outputs in
      let gates : h.gates ≡ length a.is.gates = sym (ap length a.holds.gates ∙ length-gates tabs h.gates) in
      λ j. record {
        input_values = in_values j;
        output_values = out_values j;
        input_bits = sym a.holds.ins j;
        output_bits = sym a.holds.outs j;
        wires = sym a.holds.wires j;
        gates = gates j;
      }
