-- A step of xorshift, on words of 64 bits.
use Rattle.std.specs.Prelude.{ℕ, ◌*◌, ◌/◌, ◌%◌, ◌^◌}
use Rattle.std.specs.Int.Bits.{bit_xor}

-- x and the same shifted up by k, with the bits above the word cut off; and shifted down
abbrev pub up : ℕ → ℕ → ℕ
up k x = bit_xor x (x * 2 ^ k % 2 ^ 64)

abbrev pub down : ℕ → ℕ → ℕ
down k x = bit_xor x (x / 2 ^ k)

abbrev pub mixed : ℕ → ℕ
mixed x = up 17 (down 7 (up 13 x))
