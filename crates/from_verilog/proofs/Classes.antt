-- Signs, and white bytes.
use Prim.Native.Nat.{ℕ}
use mathlib.Core.Path.{◌≡◌, refl, subst, sym, ◌∙◌}
use mathlib.Core.Bool.{true, false}
use mathlib.Core.List.{List, [], ◌∷◌}
use lib.Dec.{eqb, eqb→eq}
use Rattle.netlist.proofs.Tests.{clash, on_bool, true-T}
use Rattle.verilog.specs.Tokens.{in_word, is_sign, is_white, token}
use Rattle.from_verilog.specs.Next.{sign_code, token_of}

pub never : true ≡ false → ⊥
never e = clash (cc)

-- ---- signs

-- what the code of a byte says
pub record Sign (b : ℕ) : Type 0 where
  pub read : (w : List ℕ) → is_sign b ≡ true → token (b ∷ []) ≡ token_of (sign_code b) w
  pub other : is_sign b ≡ false → sign_code b ≡ 16
  pub some : eqb (sign_code b) 0 ≡ false

pub sign : (b : ℕ) → Sign b
unfolding token_of
sign b =
    go 40 (record { read = λ w e. refl; other = λ e. absurd (never e); some = refl })
    (λ p. go 41 (record { read = λ w e. refl; other = λ e. absurd (never e); some = refl })
    (λ q. go 59 (record { read = λ w e. refl; other = λ e. absurd (never e); some = refl })
    (λ r. go 44 (record { read = λ w e. refl; other = λ e. absurd (never e); some = refl })
    (λ s. go 61 (record { read = λ w e. refl; other = λ e. absurd (never e); some = refl })
    (λ t. go 126 (record { read = λ w e. refl; other = λ e. absurd (never e); some = refl })
    (λ u. go 38 (record { read = λ w e. refl; other = λ e. absurd (never e); some = refl })
    (λ v. go 94 (record { read = λ w e. refl; other = λ e. absurd (never e); some = refl })
    (λ x. let n : is_sign b ≡ false = rw (p, q, r, s, t, u, v, x) in
    let k : sign_code b ≡ 16 = rw (p, q, r, s, t, u, v, x) in
    record {
      read = λ w e. absurd (never (sym e ∙ n));
      other = λ e. k;
      some = rw (p, q, r, s, t, u, v, x);
    }))))))))
  where
    go : (k : ℕ) → Sign k → (eqb b k ≡ false → Sign b) → Sign b
    go k f g = on_bool (eqb b k) (λ e. subst Sign (sym (eqb→eq b k (true-T (eqb b k) e))) f) g

-- ---- white bytes

module _ (b : ℕ) (t : List ℕ) where
  -- a white byte is neither part of a word nor a sign
  pub white-only : is_white b t ≡ true → (in_word b ≡ false) × (is_sign b ≡ false)
  white-only e =
      go 32 (refl, refl) (λ p. go 10 (refl, refl) (λ q. go 13 (refl, refl)
      (λ r. absurd (never (sym e ∙ rw (p, q, r))))))
    where
      Neither : ℕ → Type 0
      Neither k = (in_word k ≡ false) × (is_sign k ≡ false)

      go : (k : ℕ) → Neither k → (eqb b k ≡ false → Neither b) → Neither b
      go k f g = on_bool (eqb b k) (λ h. subst Neither (sym (eqb→eq b k (true-T (eqb b k) h))) f) g
