-- `Cover::table` begins with no cube.
use Rattle.std.proofs.Common.{◌||◌, map, ap}
use Rattle.cells.specs.Tables.{table_bit}
use Rattle.cells.specs.Covers.{some_admits}
use Rattle.cells.proofs.TableBits.{table_bit_never}
use Rattle.cells.proofs.cover.Cover.table.Goals as goal

pub loop-cube-init : goal.loop-cube-init
loop-cube-init c j l =
    ap (λ b. b || some_admits c.args.self.now.cubes.items (map (λ t. table_bit t j) c.args.inputs.now)) (table_bit_never j)
