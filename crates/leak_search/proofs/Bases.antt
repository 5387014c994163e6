-- The counts that a block's settings are compared with.
use mathlib.Core.Path.{◌≡◌, sym, ap, ◌∙◌}
use mathlib.Core.Bool.{Bool, true, false}
use mathlib.Core.List.{List}
use Prim.Native.Nat.{ℕ, ◌+◌, ◌*◌, ◌<◌}
use native.Mathlib.Omega.{arith}
use Rattle.netlist.specs.Netlist.{Netlist}
use Rattle.masking.specs.Leak.{Secret, count}
use Rattle.leak_search.specs.Paint.{codes_of, paint}
use Rattle.leak_search.specs.Base.{count_in}
use Rattle.leak_search.specs.Block.{Counted}
use Rattle.leak_search.proofs.Paints.{zero-base}

-- the same counts held in another way
pub counted_same : {N : Netlist} {secrets : Bool} {ps : List ℕ} {counts held : ℕ → ℕ → ℕ} {block : ℕ}
    → Counted N secrets ps counts block
    → ((w s : ℕ) → s < 16 → held w s ≡ counts w s) → Counted N secrets ps held block
counted_same c h = record { each = λ w s l. h w s l ∙ c.each w s l }

-- without public bits all blocks are compared with the same counts
module _ (N : Netlist) (ps : List ℕ) (secret : Secret (codes_of ps)) where
  -- every base is the setting of number 0
  base-first : (w s : ℕ) → count_in N false ps w s ≡ count_in N true ps w 0
  base-first w s = ap (count N (codes_of ps) w) (zero-base ps secret (paint ps s))

  pub same_base : {held : ℕ → ℕ → ℕ} (b block : ℕ) → Counted N false ps held b → Counted N false ps held block
  same_base b block c = record {
    each = λ w s l. c.each w s l ∙ base-first w (b * 16 + s) ∙ sym (base-first w (block * 16 + s));
  }

  -- those of the first setting
  pub first-base : {counts held : ℕ → ℕ → ℕ} {b : ℕ} (block : ℕ) → b ≡ 0 → Counted N true ps counts b
      → ((w s : ℕ) → s < 16 → held w s ≡ counts w 0)
      → Counted N false ps held block
  first-base block e c h = record {
    each = λ w s l.
        h w s l ∙ c.each w 0 (omega arith)
        ∙ ap (λ (b : ℕ). count_in N true ps w (b * 16 + 0)) e
        ∙ sym (base-first w (block * 16 + s));
  }
