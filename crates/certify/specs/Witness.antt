-- A witness of a leak.
use Rattle.std.specs.Prelude.{ℕ, ◌<◌, List, ◌≢◌, ◌≡◌, length, Option, Some, None}
use Rattle.netlist.specs.Netlist.{Netlist}
use Rattle.masking.specs.Leak.{count, public_only}
use Rattle.leak_search.specs.declared.difference.Leak.{Leak}
use Rattle.certify.specs.Round.{setting_in}

-- a leak's wire has, in its setting, the count told, which is not that of the setting with the same public bits and
-- zero secrets
pub record Witness (N : Netlist) (codes words : List ℕ) (p : Leak ℕ) : Type 0 where
  pub wire : p.wire < length words
  pub inside : p.setting < 16
  pub own : p.own ≡ count N codes p.wire (setting_in codes words p.setting)
  pub base : p.base ≡ count N codes p.wire (public_only codes (setting_in codes words p.setting))
  pub differ : p.base ≢ p.own

-- a leak that is found has a witness
abbrev pub Witnessed : Netlist → List ℕ → List ℕ → Option (Leak ℕ) → Type 0
Witnessed N codes words (Some p) = Witness N codes words p
Witnessed N codes words None = Unit
