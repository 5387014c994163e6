-- `literals_table` meets its contract where literals or inputs end.
use Rattle.std.proofs.Common.{◌<◌, map, length, sym, ◌∙◌}
use Rattle.std.proofs.lemmas.List.{length-map}
use Rattle.cells.specs.Tables.{table_bit}
use Rattle.cells.proofs.TableBits.{table_bit_always}
use Rattle.cells.proofs.CoverBits.{no_literals, no_bits}
use Rattle.cells.proofs.cover.+literals_table.Goals as goal

pub returns-in_default : goal.returns-in_default
returns-in_default t c j l = table_bit_always j l ∙ sym (no_literals _ _ c.in_default.len_below)

pub returns-in_default-inputs : goal.returns-in_default-inputs
returns-in_default-inputs t c j l =
    let bits = map (λ t. table_bit t j) c.args.inputs.now in
    let few : length bits < 1 = rw length-map (c.in_default-inputs.len_below) in
    table_bit_always j l ∙ sym (no_bits _ bits few)
