-- What the services write, under the limits of one of the sizes.
use Rattle.std.specs.Prelude.{ℕ, List}
use Rattle.netlist.specs.declared.Sizes.{Sizes}
use Rattle.mask.specs.Promise.{Masks}

-- a text and output codes are what Mask gives for a source, its input codes and the wanted codes
pub record IsMasked (text codes wanted masked out_codes : List ℕ) : Type 0 where
  pub sizes : Sizes
  pub masks : Masks sizes text codes wanted masked out_codes
