-- The codes of the inputs under a choice.
use Prim.Native.Nat.{ℕ, zero, suc, ◌+◌, ◌%◌, ◌<◌}
use mathlib.Core.Path.{◌≡◌, refl, sym, ap, ◌∙◌}
use mathlib.Core.List.{List, [], ◌∷◌, map}
use native.Mathlib.Nat.{mod-eq_of_lt}
use native.Mathlib.Omega.{arith}
use lib.Dec.{eqb}
use borrow.Author.Tests.{eqb-true, eqb-false, ne_eqb}
use lib.ListN.{length, get_or, set, length-set, length-map, get_or-append}
use lib.Seq.{get_or-set_same, get_or-set_other}
use Rattle.netlist.specs.Netlist.{Netlist}
use Rattle.netlist.proofs.Tests.{on_bool}
use Rattle.fewest.specs.Choice.{Choice, input_ways, chosen_code, chosen_codes, chosen_inputs}
use Rattle.fewest.specs.Codes.{code_at, input_code, first_codes}
use Rattle.fewest.specs.Advance.{choice_of}
use Rattle.fewest.specs.Ends.{way_code, FilledBy}
use Rattle.fewest.proofs.Chosen.{length-chosen_codes}

-- ---- the loop: the first i inputs are filled

pub filling-more : {f : ℕ → ℕ → ℕ} {codes way u₀ u : List ℕ} {i x : ℕ} → FilledBy f codes way i u₀ u → i < length u₀
    → x ≡ f (get_or codes i 0) (get_or way i 0) → FilledBy f codes way (i + 1) u₀ (set u i x)
filling-more {f} {codes} {way} {u₀} {u} {i} {x} I h e =
    let s = I.size in
    record {
      filled = λ w b. on_bool (eqb w i)
          (λ t. rw (eqb-true w i t) (get_or-set_same u i x 0 (omega arith) ∙ e))
          (λ t. let n : w ≡ i → ⊥ = eqb-false w i t in get_or-set_other u i w x 0 n ∙ I.filled w (omega arith));
      kept = λ w b. get_or-set_other u i w x 0 (λ e. omega arith) ∙ I.kept w (omega arith);
      size = length-set u i x ∙ s;
    }

-- the code of an input under a choice that takes one of its ways
way-code : (e d : ℕ) → d < input_ways e → way_code e d ≡ input_code (chosen_code d e)
way-code e d h =
    on_bool (eqb e 4)
    (λ z. let q = eqb-true e 4 z in
    let l : d < 3 = rw z at h in
    let m : d % 4 ≡ d = mod-eq_of_lt (omega arith) in
    rw (q, m, ne_eqb (d + 1) 0 (λ x. omega arith)) refl)
    (λ z. rw z refl)

-- the code of an input under a choice
pub chosen-code-at : (d : Choice) (p : ℕ) (es : List ℕ) (i : ℕ) → i < length es → get_or (chosen_codes d p es) i 0
    ≡ chosen_code (d (p + i)) (get_or es i 0)
chosen-code-at d p [] i h = absurd (omega arith)
chosen-code-at d p (e ∷ es) zero h = let z : p + 0 ≡ p = omega arith in rw z refl
chosen-code-at d p (e ∷ es) (suc i) h = let z : p + suc i ≡ suc p + i = omega arith
    in rw z (chosen-code-at d (suc p) es i (omega arith))

map_at : (f : ℕ → ℕ) (xs : List ℕ) (i : ℕ) → i < length xs → get_or (map f xs) i 0 ≡ f (get_or xs i 0)
map_at f [] i h = absurd (omega arith)
map_at f (x ∷ xs) zero h = refl
map_at f (x ∷ xs) (suc i) h = map_at f xs i (omega arith)

-- so an input that was filled has its code under the choice of the table of ways
pub filled-first : (N : Netlist) (codes way : List ℕ) (w : ℕ) → w < length codes → choice_of way w < input_ways
    (get_or codes w 0)
    → way_code (get_or codes w 0) (get_or way w 0) ≡ code_at (first_codes N (chosen_inputs codes (choice_of way))) w
filled-first N codes way w h t =
    let lc = length-chosen_codes (choice_of way) 0 codes in
    let lm = length-map (chosen_inputs codes (choice_of way)) input_code in
    let z : 0 + w ≡ w = omega arith in
    way-code (get_or codes w 0) (choice_of way w) t
    ∙ ap input_code (sym (chosen-code-at (choice_of way) 0 codes w h
    ∙ ap (λ (q : ℕ). chosen_code (choice_of way q) (get_or codes w 0)) z))
    ∙ sym (map_at input_code (chosen_inputs codes (choice_of way)) w (omega arith))
    ∙ sym (get_or-append (map input_code (chosen_inputs codes (choice_of way))) _ 0 w (omega arith))
