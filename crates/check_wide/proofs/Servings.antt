-- Items that get colours one after the other.
use Prim.Native.Nat.{ℕ, ◌+◌}
use mathlib.Core.Path.{sym, ap, ◌∙◌, subst}
use mathlib.Core.Bool.{not}
use mathlib.Core.List.{List}
use mathlib.Core.Logic.{inl, inr}
use lib.Dec.{eqb}
use lib.ListN.{set}
use lib.Seq.{get_or-set_other}
use borrow.Author.Tests.{eqb-true, eqb-false}
use Rattle.netlist.proofs.Tests.{on_bool}
use Rattle.check_wide.specs.Rule.{Different}
use Rattle.check_wide.specs.PaintColours.{Kept}
use Rattle.check_wide.specs.Packed.{Sets}
use Rattle.check_wide.specs.Items.{item_set, Serving}

module _ {S : Sets} {ws : List ℕ} {W start : ℕ} where
  -- an item got colours and a mark
  pub serving-mark : (marks : List ℕ) {ps qs : List ℕ} (x : ℕ) → Kept ps qs → Different (item_set S ws W (start + x)) qs
      → Serving S ws W start marks (set marks x 1) ps qs
  serving-mark marks {ps} {qs} x k D = record {
    kept = k;
    each = λ y m. on_bool (eqb y x)
        (λ t. inr (subst (λ (z : ℕ). Different (item_set S ws W (start + z)) qs) (sym (eqb-true y x t)) D))
        (λ t. inl (ap (λ (p : ℕ). not (eqb p 0)) (sym (get_or-set_other marks x y 1 0 (eqb-false y x t))) ∙ m));
  }
