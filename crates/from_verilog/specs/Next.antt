-- The next token of a text from a place.
use Rattle.std.specs.Prelude.{ℕ, zero, suc, ◌+◌, ◌-◌, ◌≤◌, ◌<◌, ◌≡◌, false, cond, ◌&&◌, List, [], ◌∷◌, eqb, leb, length}
use Rattle.std.specs.Prelude.{take, drop, get_or}
use Rattle.std.proofs.Math.Option.{Option, none, some}
use Rattle.netlist.specs.Lists.{same_bytes, ascii}
use Rattle.verilog.specs.Tokens.{is_letter, starts, is_white, Token, name, mark, marks, cons_token, tokens}

-- ---- codes

abbrev pub sign_code : ℕ → ℕ
sign_code b =
    cond (eqb b 40) 7 (cond (eqb b 41) 8 (cond (eqb b 59) 9 (cond (eqb b 44) 10
    (cond (eqb b 61) 11 (cond (eqb b 126) 12 (cond (eqb b 38) 13 (cond (eqb b 94) 14 16)))))))

unfoldable pub word_code : List ℕ → ℕ
word_code w =
    cond (same_bytes w (ascii "module")) 1
    (cond (same_bytes w (ascii "input")) 2
    (cond (same_bytes w (ascii "output")) 3
    (cond (same_bytes w (ascii "wire")) 4
    (cond (same_bytes w (ascii "assign")) 5
    (cond (same_bytes w (ascii "endmodule")) 6
    (cond (leb (length w) 16 && starts is_letter w) 15 16))))))

-- the k-th mark, counted from 1
abbrev pub mark_of : ℕ → List (List ℕ) → Option Token
mark_of k [] = none
mark_of zero (m ∷ ms) = none
mark_of (suc zero) (m ∷ ms) = some (mark m)
mark_of (suc (suc k)) (m ∷ ms) = mark_of (suc k) ms

-- the code of a token
abbrev pub code_from : ℕ → List ℕ → List (List ℕ) → ℕ
code_from c k [] = 0
code_from c k (m ∷ ms) = cond (same_bytes k m) c (code_from (suc c) k ms)

abbrev pub code_of : Token → ℕ
code_of (name w) = 15
code_of (mark k) = code_from 1 k marks

-- the token of a code and a word
unfoldable pub token_of : ℕ → List ℕ → Option Token
token_of c w = cond (eqb c 15) (some (name w)) (mark_of c marks)

-- ---- places

-- the bytes between two places
abbrev pub between : List ℕ → ℕ → ℕ → List ℕ
between t from to = take (to - from) (drop from t)

-- what stands between the places counts for nothing, and at the second is the end, or a byte that is not white
pub record White (t : List ℕ) (at to : ℕ) : Type 0 where
  pub same : tokens (drop at t) ≡ tokens (drop to t)
  pub solid : to < length t → is_white (get_or t to 0) (drop (to + 1) t) ≡ false
  pub on : at ≤ to
  pub within : to ≤ length t

-- the tokens from a token on, where `rest` are those after it
abbrev pub tokens_from : ℕ → List ℕ → Option (List Token) → Option (List Token)
tokens_from c w rest = cond (eqb c 0) (some []) (cons_token (token_of c w) rest)

-- the next token of t from a place has a code, and stands between two places
pub record TokenAt (t : List ℕ) (at c from to : ℕ) : Type 0 where
  pub read : tokens (drop at t) ≡ tokens_from c (between t from to) (tokens (drop to t))
  pub start : at ≤ from
  pub on : eqb c 0 ≡ false → from < to
  pub onward : from ≤ to
  pub within : to ≤ length t
