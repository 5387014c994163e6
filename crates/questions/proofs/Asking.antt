-- What follows from a yes to questions 10 and 11.
use Prim.Native.Nat.{ℕ, zero, suc, ◌+◌, ◌-◌, ◌≤◌}
use mathlib.Core.Path.{◌≡◌}
use mathlib.Core.Bool.{true}
use mathlib.Core.List.{List, [], ◌∷◌}
use native.Mathlib.Omega.{arith}
use lib.Dec.{eqb, leb, eqb→eq}
use lib.ListN.{length, get_or}
use Rattle.netlist.specs.Lists.{every, sum}
use Rattle.netlist.specs.Outcome.{done}
use Rattle.netlist.specs.Services.{list_good}
use Rattle.masking.specs.Mask.{is_input_code}
use Rattle.masking.specs.Calls.{ends_in_masks}
use Rattle.netlist.proofs.Tests.{both, is_true, true-T}
use Rattle.netlist.proofs.Questions.{ask-done}
use Rattle.questions.specs.Asked.{codes_asked}

-- ---- question 10

sum-at : (ws : List ℕ) (i : ℕ) → get_or ws i 0 ≤ sum ws
sum-at [] i = omega arith
sum-at (x ∷ ws) zero = omega arith
sum-at (x ∷ ws) (suc i) = let h = sum-at ws i in omega arith

-- the mask pair is among the input bits
pub masks-bits : (ws : List ℕ) → ends_in_masks ws ≡ true → 2 ≤ sum ws
masks-bits ws e =
    let l = (both (leb 2 (length ws)) (eqb (get_or ws (length ws - 1) 0) 2) (true-T (ends_in_masks ws) e)).1 in
    let p = eqb→eq (get_or ws (length ws - 1) 0) 2 l in
    let s = sum-at ws (length ws - 1) in
    omega arith

-- ---- question 11

pub codes-length : (n : ℕ) (codes : List ℕ) → list_good is_input_code n codes ≡ true → length codes ≡ n
codes-length n codes good = eqb→eq (length codes) n (both (eqb (length codes) n) (every is_input_code codes)
    (true-T (list_good is_input_code n codes) good)).0

-- ---- questions 10 and 11, and then 12

module _ (ws codes : List ℕ) where
  -- both are passed
  pub asked-passed : codes_asked ws codes ≡ done tt → (ends_in_masks ws ≡ true)
      × (list_good is_input_code (sum ws - 2) codes ≡ true)
  asked-passed e =
      let ten = ask-done 10 (ends_in_masks ws) _ tt e in
      let eleven = ask-done 11 (list_good is_input_code (sum ws - 2) codes) _ tt ten.1 in
      (is_true (ends_in_masks ws) ten.0, is_true (list_good is_input_code (sum ws - 2) codes) eleven.0)

  -- the mask pair is among the input bits, and the codes are as many as the others
  pub asked-bits : codes_asked ws codes ≡ done tt → length codes + 2 ≡ sum ws
  asked-bits e =
      let p = asked-passed e in
      let m = masks-bits ws p.0 in
      let l = codes-length (sum ws - 2) codes p.1 in
      omega arith
