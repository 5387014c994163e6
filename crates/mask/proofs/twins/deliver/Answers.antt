-- `deliver`: questions 11 and 14 in order, and the twins at the fronts of the buffers.
use mathlib.Core.Path.{sym, ◌∙◌}
use lib.Seq.{length-take-le}
use Rattle.masking.specs.Mask.{is_input_code}
use Rattle.mask_rule.proofs.Made.{codes-length}
use Rattle.mask.proofs.Placing.{twins-14, holds-codes, short-wires, short-codes, placed, finished-same}
use native.Mathlib.Omega.{arith}
use Rattle.mask.proofs.twins.deliver.Goals as goal

pub returns-then-wires-all : goal.returns-then-wires-all
returns-then-wires-all c =
    let codes = c.args.codes.now in
    let q = sym c.valid_codes.ensures ∙ c.if-not-valid_codes.false in
    let k = codes-length is_input_code _ codes q in
    λ N m.
    twins-14 m.gates codes q
    (short-wires codes (holds-codes m.gates codes q) (omega (arith, k, c.args.netlist.header.inputs_are_wires)) _ _
    c.if-wires-all.true)

pub returns-then-out_codes-all : goal.returns-then-out_codes-all
returns-then-out_codes-all c =
    let codes = c.args.codes.now in
    let q = sym c.valid_codes.ensures ∙ c.if-not-valid_codes.false in
    let k = codes-length is_input_code _ codes q in
    λ N m.
    twins-14 m.gates codes q
    (short-codes codes (holds-codes m.gates codes q) (omega (arith, k, c.args.netlist.header.inputs_are_wires)) _ _
    c.if-out_codes-all.true)

pub returns : goal.returns
returns c =
    let t = c.place_twins in
    let codes = c.args.codes.now in
    let q = sym c.valid_codes.ensures ∙ c.if-not-valid_codes.false in
    let k = codes-length is_input_code _ codes q in
    let a = c.if-wires-all.false in
    let b = c.if-out_codes-all.false in
    let w = length-take-le c.args.netlist.header.wires c.args.wires.now a in
    let v = length-take-le c.args.netlist.header.wires c.args.out_codes.now b in
    λ N m.
    twins-14 m.gates codes q
    (placed codes (holds-codes m.gates codes q) (omega (arith, k, c.args.netlist.header.inputs_are_wires)) a b
    (t.auto.twin_wires ∙ w) (t.auto.twin_codes ∙ v)
    (finished-same (sym w) t.ensures))
