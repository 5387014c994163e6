-- A setting, or the one that it is compared with: the same public bits and zero secrets.
use Rattle.std.specs.Prelude.{ℕ, Bool, true, false, ◌&&◌, List}
use Rattle.netlist.specs.Netlist.{Netlist}
use Rattle.masking.specs.Mask.{is_public}
use Rattle.masking.specs.Leak.{count, public_only}
use Rattle.leak_search.specs.Paint.{codes_of, paint}

-- one bit of a setting, or of its base
abbrev pub kept : Bool → ℕ → Bool → Bool
kept true e b = b
kept false e b = is_public e && b

-- a setting with its secrets, or its base
abbrev pub part : Bool → List ℕ → List Bool → List Bool
part true codes x = x
part false codes x = public_only codes x

-- the count of wire w in the setting that the paints give to a number, or in its base
abbrev pub count_in : Netlist → Bool → List ℕ → ℕ → ℕ → ℕ
count_in N secrets paints w s = count N (codes_of paints) w (part secrets (codes_of paints) (paint paints s))
