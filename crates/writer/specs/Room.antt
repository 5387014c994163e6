-- How long a gate's line may be.
use Rattle.std.specs.Prelude.{ℕ, ◌+◌, ◌*◌, length}
use Rattle.netlist.specs.Number.{decimal}

-- the most bytes of the line of a gate whose wires are below W: three numbers of as many digits as W has, and
-- eleven more, which are the head, a space after each number, and the name
abbrev pub longest_line : ℕ → ℕ
longest_line W = 3 * length (decimal W) + 11
