-- `add_names` meets its contract: the cell that is pushed says what the cover says.
use Rattle.std.proofs.Common.{◌≡◌, ℕ, ◌≤◌, map, take, length, refl, ap, ◌∙◌, arith}
use Rattle.cells.specs.declared.build.Cell.{Cell}
use Rattle.cells.specs.Tables.{table_bit}
use Rattle.cells.specs.Covers.{cover_bit}
use Rattle.cells.specs.Computes.{input_tables}
use Rattle.blif.specs.Meaning.{SaysCover}
use Rattle.blif.proofs.assemble.Cells.add_names.Goals as goal

pub returns : goal.returns
returns c =
    let names = c.args.names.now in
    let cell : Cell = record { output = names.output; inputs = c.in_ok-inputs.inputs; table = c.table-table.result } in
    let long = ap length c.deref.ensures.value in
    let count : c.len-count.result ≡ length names.inputs.items = omega (arith, long, c.deref.ensures.len, c.len-count.ensures) in
    let few : length names.inputs.items ≤ 6 = omega (arith, long, c.deref.ensures.len, c.len-count.ensures, c.if-count-gt6.false) in
    let says : SaysCover names cell = record {
      output = refl;
      inputs = c.in_ok-inputs.ensures.items ∙ c.deref.ensures.value;
      few = few;
      table = λ j l. c.table-table.ensures j l
          ∙ ap (λ (k : ℕ). cover_bit names.cover (map (λ t. table_bit t j) (take k input_tables))) count;
    } in
    (cell, says, c.in_ok-push-2.ensures.items)
