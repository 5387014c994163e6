-- The questions of an opening.
use Prim.Native.Nat.{ℕ, zero, suc, ◌+◌, ◌≤◌}
use mathlib.Core.Path.{◌≡◌, refl, ap, ◌∙◌}
use mathlib.Core.Bool.{Bool, true, not}
use mathlib.Core.List.{List, [], ◌∷◌}
use native.Mathlib.Omega.{arith}
use Rattle.std.specs.Prelude.{cond, count_by}
use Rattle.std.specs.List.{list_any}
use Rattle.std.proofs.lemmas.List.Sums.{sum_by-cons}
use lib.Dec.{eqb, leb, eqb→eq}
use lib.ListN.{length, length-append}
use borrow.Author.Tests.{ne_eqb, le-leb}
use Rattle.netlist.specs.declared.Sizes.{Sizes}
use Rattle.netlist.specs.declared.Sizes.TheVariants.{Standard, Whole}
use Rattle.netlist.specs.Lists.{every}
use Rattle.netlist.specs.Netlist.{source_limits}
use Rattle.masking.specs.Mask.{is_input_code, is_public, mask_gates, public_gates, past_publics}
use Rattle.netlist.specs.Services.{list_good}
use Rattle.netlist.proofs.Tests.{on_bool, true-T, both_true}
use Rattle.session.specs.Afresh.{open_gates}
use Rattle.session.specs.Asked.{widths_good}
use Rattle.session.proofs.More.{past-publics}
use Rattle.session.specs.Plan.{most_bits}

-- both limits admit at most as many
pub few : (z : Sizes) → (source_limits z).wires ≤ most_bits
few Standard = omega arith
few Whole = omega arith

-- as many codes as bits, within the limits
pub few-codes : (z : Sizes) (codes : List ℕ) {n : ℕ} → list_good is_input_code n codes ≡ true
    → n ≤ (source_limits z).wires → length codes ≤ most_bits
few-codes z codes {n} e l = omega (
  arith,
  few z,
  l,
  eqb→eq (length codes) n (true-T (eqb (length codes) n)
      (both_true (eqb (length codes) n) (every is_input_code codes) e).0),
)

-- question 4 of widths
no-zero : (widths : List ℕ) → not (list_any (λ w. eqb w 0) widths) ≡ every (leb 1) widths
no-zero [] = refl
no-zero (zero ∷ widths) = refl
no-zero (suc w ∷ widths) = rw (ne_eqb (suc w) 0 (λ e. absurd (omega (arith, e))), le-leb 1 (suc w) (omega arith))
    (no-zero widths)

pub all-positive : (widths : List ℕ) {r : Bool} → (length widths ≡ 0 → ⊥) → r ≡ list_any (λ w. eqb w 0) widths → not r
    ≡ widths_good widths
all-positive widths d e = ap not e ∙ no-zero widths ∙ rw (le-leb 1 (length widths) (omega (arith, d)))

-- a wire for each public bit
pub past-count : (c : ℕ) (es : List ℕ) → past_publics c es ≡ c + count_by is_public es
past-count c [] = omega arith
past-count c (e ∷ es) =
    let f = sum_by-cons (λ x. cond (is_public x) 1 0) e es in
    on_bool (is_public e)
    (λ t. rw t (omega (arith, rw t at f, past-count (c + 1) es)))
    (λ t. rw t (omega (arith, rw t at f, past-count c es)))

-- how many masked gates an opening has
pub open-count : (codes : List ℕ) → 3 + count_by is_public codes ≡ length (open_gates codes)
open-count codes =
    let n = length codes in
    omega (
      arith,
      length-append (mask_gates n) (public_gates n (n + 5) 0 codes),
      past-publics n (n + 5) 0 codes,
      past-count (n + 5) codes,
    )
