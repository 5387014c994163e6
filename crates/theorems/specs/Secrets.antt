-- What the rule of equal counts says where no bit is public (docs/RULES.md, Leaks).
use Rattle.std.specs.Prelude.{ℕ, ◌<◌, ◌^◌, Bool, List, ◌≡◌, length}
use Rattle.netlist.specs.Netlist.{Netlist}
use Rattle.masking.specs.Leak.{count, Secret, EqualCounts, Clean, first_wire, count_at, base_at, leak}

-- a wire has the same count for any two settings
abbrev pub AllEqual : Netlist → List ℕ → ℕ → Type 0
AllEqual N codes w = (x y : List Bool) → length x ≡ length codes → length y ≡ length codes → count N codes w x
    ≡ count N codes w y

-- of a netlist without public bits
pub record WithoutPublicBits (N : Netlist) (codes : List ℕ) : Type 0 where
  -- clean is: every wire has the same count for any two settings
  pub clean : Clean N codes → (w : ℕ) → w < N.wires → AllEqual N codes w
  pub clean_back : ((w : ℕ) → w < N.wires → AllEqual N codes w) → Clean N codes
  -- every base is setting 0
  pub base : (w s : ℕ) → base_at N codes w s ≡ count_at N codes w 0
  -- the leak told is that of the lowest wire and the smallest setting whose count differs from that of setting 0
  pub first : leak N codes ≡ first_wire (λ w s. count_at N codes w 0) (count_at N codes) (2 ^ length codes) N.wires 0

abbrev pub AllSecret : Type 0
AllSecret = (N : Netlist) (codes : List ℕ) → Secret codes → WithoutPublicBits N codes
